use Rattle.std.proofs.Common.{rules}
use Rattle.engine.specs.Frames.{held_at}
use Rattle.machine.specs.Runs.{scene}
use Rattle.engine.specs.Courses.{course_of}
use Rattle.engine.proofs.Counted.{granted_counted}
use Rattle.engine.proofs.run.Run.go_on.Goals as goal

pub returns-clause-does : goal.returns-clause-does
returns-clause-does g c =
    rw (← granted_counted g.N.Arithmetic.rules (held_at c.args.held.now) c.args.self.count c.args.image.now c.args.grant
    (scene (course_of c.args.self).run c.args.stack.now c.args.returns.now) c.requires.image) (search rules)
