use Rattle.std.proofs.Common.{length, sym, ap, ◌∙◌, arith}
use Rattle.machine.specs.Runs.{scene}
use Rattle.engine.specs.Frames.{held_at}
use Rattle.engine.specs.Courses.{Course, course_of}
use Rattle.engine.proofs.Grants.{all_made, ends, goes_on}
use Rattle.engine.proofs.run.Run.make_steps.Goals as goal

pub loop-made-preserved : goal.loop-made-preserved
loop-made-preserved g c =
    let self = (course_of c.args.self).run in
    let before = c.loop-made.invariant.loan in
    let same = c.step-answer.ensures.loan in
    record {
      loan = (same.0 ∙ before.0, same.1 ∙ before.1);
      after =
          goes_on g.N.Arithmetic.rules (held_at c.args.program.now.held.now) (length c.args.program.now.image.now) c.args.program.now.image.now self
          (scene self c.args.memory.now.stack.now c.args.memory.now.returns.now) c.loop-made.made c.loop-made.memory.registers
          c.loop-made.memory.stack.now c.loop-made.memory.returns.now
          c.loop-made.invariant.after (omega (arith, c.loop-made-test.true, c.min-most.ensures)) c.step-answer.result c.step-answer.new.self.registers
          c.step-answer.new.self.stack.now c.step-answer.new.self.returns.now c.step-answer.ensures.does (sym c.if-stops.ensures);
    }

pub returns-then-stops-clause-does : goal.returns-then-stops-clause-does
returns-then-stops-clause-does g c =
    let self = (course_of c.args.self).run in
    ap (λ (k : Course). scene k.run c.step-answer.new.self.stack.now c.step-answer.new.self.returns.now) c.stopped.ensures
    ∙ sym (ends g.N.Arithmetic.rules (held_at c.args.program.now.held.now) (length c.args.program.now.image.now) c.args.program.now.image.now self
    (scene self c.args.memory.now.stack.now c.args.memory.now.returns.now) c.loop-made.made c.loop-made.memory.registers
    c.loop-made.memory.stack.now c.loop-made.memory.returns.now
    c.loop-made.invariant.after (omega (arith, c.loop-made-test.true, c.min-most.ensures)) c.step-answer.result c.step-answer.new.self.registers
    c.step-answer.new.self.stack.now c.step-answer.new.self.returns.now c.step-answer.ensures.does
    c.args.grant (omega (arith, c.loop-made-test.true, c.min-most.ensures)) (sym c.if-stops.ensures))

pub returns-clause-does : goal.returns-clause-does
returns-clause-does g c =
    let self = (course_of c.args.self).run in
    ap (λ (k : Course). scene k.run c.loop-made.memory.stack.now c.loop-made.memory.returns.now) c.moved.ensures
    ∙ sym (all_made g.N.Arithmetic.rules (held_at c.args.program.now.held.now) (length c.args.program.now.image.now) c.args.program.now.image.now self
    (scene self c.args.memory.now.stack.now c.args.memory.now.returns.now) c.loop-made.made c.min-most.result c.args.grant
    c.loop-made.memory.registers c.loop-made.memory.stack.now
    c.loop-made.memory.returns.now c.loop-made.invariant.after (omega (arith, c.loop-made-test.false, c.loop-made.auto.made-end)) c.min-most.ensures
    (c.args.self.left c.requires.going))
