use Rattle.lease_disk.specs.Model.{device_of}
use Rattle.run_tests.proofs.deadline_tests.is_released.Goals as goal

pub is_answered-is_silent-requires-clause-ready : goal.is_answered-is_silent-requires-clause-ready
is_answered-is_silent-requires-clause-ready c = c.tick.ensures.ready (device_of c.args.disk.now).region c.requires.ready
