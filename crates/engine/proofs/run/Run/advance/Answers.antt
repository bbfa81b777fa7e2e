use Rattle.std.proofs.Common.{◌≡◌, ℕ, None, sym, ap, ◌∙◌, rules, arith}
use Rattle.std.proofs.lemmas.Bool.{cond-false}
use Rattle.std.proofs.lemmas.Bool.Decides.{nat_tests}
use Rattle.machine.specs.Steps.{frame_room}
use Rattle.machine.specs.Runs.{Scene, granted, scene}
use Rattle.engine.specs.Frames.{held_at}
use Rattle.engine.specs.Courses.{course_of, left, moved, too_short}
use Rattle.engine.specs.declared.run.Run.{Run}
use Rattle.machine.proofs.Grants.{not_going}
use Rattle.engine.proofs.run.Run.advance.Goals as goal
use Rattle.engine.proofs.run.Run.advance.Goals.{then-eq, else-eq}

pub returns : goal.returns
returns g c =
    let laws = g.N.Arithmetic.rules in
    let held = held_at c.args.held.now in
    let self = c.args.self.now in
    let image = c.args.image.now in
    let s = c.args.stack.now in
    let t = c.args.returns.now in
    let before : Scene g.row.N.Denot = scene (course_of self).run s t in
    let after : Scene g.row.N.Denot = scene (course_of c.if-eq.self).run c.if-eq.stack c.if-eq.returns in
    let does : after ≡ granted frame_room laws held self.count image c.args.grant before =
    elim c.if-eq.branch [
      | then-eq w ↦
          let a = w.self-is in
          let b = w.stack-is in
          let d = w.returns-is in
          let made : Scene g.row.N.Denot = scene (course_of w.go_on.result).run w.go_on.new.stack w.go_on.new.returns in
          let same : after ≡ made = cc in
          same ∙ w.go_on.ensures.does
      | else-eq w ↦
          let a = w.self-is in
          let b = w.stack-is in
          let d = w.returns-is in
          let same : after ≡ before = cc in
          same ∙ sym (not_going frame_room laws held self.count image c.args.grant before (λ e. let h = c.eq.ensures in let k = w.if-eq.false in search rules))
    ] in
    let count : c.if-eq.self.count ≡ self.count =
    elim c.if-eq.branch [
      | then-eq w ↦ ap (λ (r : Run). r.count) w.self-is ∙ w.go_on.ensures.count
      | else-eq w ↦ ap (λ (r : Run). r.count) w.self-is
    ] in
    ap (λ (n : ℕ). moved n after) count
    ∙ ap (moved self.count) does
    ∙ sym (cond-false (too_short self.count image s t) (left None (course_of self) s t)
    (moved self.count (granted frame_room laws held self.count image c.args.grant before)) (sym c.if-too_short.ensures))

pub go_on-requires-clause-image : goal.go_on-requires-clause-image
go_on-requires-clause-image g c = grind (arith, nat_tests, c.if-too_short.ensures)

pub go_on-requires-clause-room : goal.go_on-requires-clause-room
go_on-requires-clause-room g c = grind (arith, nat_tests, c.if-too_short.ensures)

pub go_on-requires-clause-table : goal.go_on-requires-clause-table
go_on-requires-clause-table g c = grind (arith, nat_tests, c.if-too_short.ensures)
