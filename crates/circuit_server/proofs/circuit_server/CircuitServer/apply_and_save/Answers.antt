use Rattle.circuit_server.proofs.circuit_server.CircuitServer.apply_and_save.Goals as goal

pub save_alone-requires : goal.save_alone-requires
save_alone-requires g c =
    c.requires.ready c.apply_for_save-saving.new.self c.apply_for_save-saving.result c.apply_for_save-saving.ensures.pools c.apply_for_save-saving.ensures.applied
