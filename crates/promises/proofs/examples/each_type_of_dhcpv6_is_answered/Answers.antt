use Rattle.promises.proofs.ExampleLemmas6.{confirm_answered, decline_answered, elsewhere_answered, rebind_answered, release_answered, renew_answered, request_answered, solicit_answered}
use Rattle.promises.proofs.examples.each_type_of_dhcpv6_is_answered.Goals as goal

pub returns-clause-solicit : goal.returns-clause-solicit
returns-clause-solicit c = solicit_answered

pub returns-clause-request : goal.returns-clause-request
returns-clause-request c = request_answered

pub returns-clause-confirm : goal.returns-clause-confirm
returns-clause-confirm c = confirm_answered

pub returns-clause-elsewhere : goal.returns-clause-elsewhere
returns-clause-elsewhere c = elsewhere_answered

pub returns-clause-renew : goal.returns-clause-renew
returns-clause-renew c = renew_answered

pub returns-clause-rebind : goal.returns-clause-rebind
returns-clause-rebind c = rebind_answered

pub returns-clause-release : goal.returns-clause-release
returns-clause-release c = release_answered

pub returns-clause-decline : goal.returns-clause-decline
returns-clause-decline c = decline_answered
