use Rattle.std.proofs.Common.{length, sym, ◌∙◌}
use Rattle.engine.specs.Frames.{held_at}
use Rattle.engine.proofs.Keeps.{fair_planned}
use Rattle.engine.proofs.memory.Memory.step.Goals as goal

pub carry-requires : goal.carry-requires
carry-requires g c =
    fair_planned g.N.Arithmetic.rules (held_at c.args.program.now.held.now) (length c.args.program.now.image.now) c.args.self.now.registers _
    c.args.self.now.returns.now c.args.program.now.image.now c.in_ok-effect.effect c.args.self.now.sound (sym c.plan.ensures ∙ c.in_ok-effect.was)
