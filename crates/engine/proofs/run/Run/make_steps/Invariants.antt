use Rattle.std.proofs.Common.{length}
use Rattle.machine.specs.Runs.{scene}
use Rattle.engine.specs.Courses.{course_of}
use Rattle.engine.specs.Frames.{IsSameLoan, held_at}
use Rattle.engine.proofs.Grants.{After}
use Rattle.engine.proofs.run.Run.make_steps.Given as goal

abbrev pub invariant-loop-made : goal.invariant-loop-made
invariant-loop-made g l = record {
  loan : IsSameLoan l.initial.memory l.memory;
  after : After g.N.Arithmetic.rules (held_at l.program.held.now) (length l.program.image.now) l.program.image.now (course_of l.self).run
      (scene (course_of l.self).run l.initial.memory.stack.now l.initial.memory.returns.now) l.made l.memory.registers l.memory.stack.now
      l.memory.returns.now;
}
