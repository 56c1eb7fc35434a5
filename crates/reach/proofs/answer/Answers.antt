use Rattle.reach.proofs.Texts.{run-answered, fault-text}
use Rattle.reach.proofs.answer.Goals as goal

pub returns-in-Ok : goal.returns-in-Ok
returns-in-Ok c = record {
  answered = run-answered _ _ _ c.in-Ok.is c.load.ensures.result_value c.load.ensures.laid_out _ _ _ _ _ _ _ _ _ c.load.ensures.vertices_after c.load.ensures.walks_after c.load.ensures.hops_after c.run_text.ensures.run_told;
  prefix_len = c.run_text.ensures.prefix_len;
}

pub returns-in-Err : goal.returns-in-Err
returns-in-Err c = record {
  answered = fault-text _ _ _ _ _ _ c.in-Err.is c.load.ensures.result_value c.requires c.fault_line.ensures.out_after c.fault_line.ensures.value;
  prefix_len = c.fault_line.ensures.prefix_len;
}
