use Rattle.std.proofs.Common.{◌≡◌, ℕ, length, None, Option, sym, refl, ap, ◌∙◌, arith, length-append}
use Rattle.std.proofs.lemmas.List.{take_at, length-drop}
use Rattle.recipe.specs.Names.{all}
use Rattle.pass.specs.Known.{env, signed, entered}
use Rattle.pass.specs.Outputs.{over_with, over_all}
use Rattle.pass.specs.Reads.{frame_verdict}
use Rattle.lexer.specs.declared.Kind.TheVariants.{End}
use Rattle.pass.proofs.Steps.{known_ahead, declarations_bad, main_bad, main_read}
use Rattle.pass.proofs.Makes.{fault_of}
use Rattle.pass.proofs.Tables.{frames_over}
use Rattle.pass.proofs.Spots.{exit}
use Rattle.pass.proofs.Recipes.{main_made}
use Rattle.pass.proofs.base.Base.over.Goals as goal

pub returns-in_err-within : goal.returns-in_err-within
returns-in_err-within c =
    let g = c.in_ok-heads.ensures in
    let b = c.in_err-within.ensures in
    exit _ _ _ c.from_residual-in_err-within.ensures.1 (rw (b.0.0, b.0.1) (declarations_bad (length c.args.text.now) g.1.read g.2 b.1))

pub returns-in_err-last : goal.returns-in_err-last
returns-in_err-last c =
    let g = c.in_ok-heads.ensures in
    let w = c.in_ok-within.ensures in
    exit _ _ _ c.from_residual-in_err-last.ensures.1 (main_bad (length c.args.text.now) g.1.read w.0.token g.0.fit.1 w.1 c.in_err-last.ensures.goes)

pub returns : goal.returns
unfolding main_read
returns c =
    let text = c.args.text.now in
    let h = c.in_ok-heads.heads in
    let g = c.in_ok-heads.ensures in
    let w = c.in_ok-within.ensures in
    let r = c.in_ok-last.ensures.goes in
    let l = c.in_ok-last.last.look in
    let d = g.1 in
    let ds = all d.read.declared in
    let e = r.read.tree in
    let copied = c.copy_from_slice.ensures.after ∙ c.deref.ensures.0 in
    let counted : length c.copy_from_slice.new.self ≡ c.len-count.result = ap length copied ∙ sym c.len-count.ensures.value in
    let m = main_made c.args.self.index c.args.image.now ds e (ap (λ vs. env c.args.functions.now vs) c.new.ensures) refl refl (fault_of w.0.out ∙ d.made.fault) d.made.written
    r.made c.emit-out.ensures.made c.emit-out.ensures.written refl in
    record {
      declared = d.read.declared;
      at_in = h.next.look.start;
      main = e;
      reads = (main_read (length text) d.read w.0.token g.0.fit.1 w.1 r.read (known_ahead text {k' = End} l.start l.end (grind arith))).1;
      functions_end = d.made.index;
      main_end = m.0;
      faulty = m.2;
      framed = ap frame_verdict (c.first_over.ensures ∙ (ap (λ (o : Option ℕ). over_with o c.emit-out.result.peak h.next.look.start) d.found.framed
          ∙ ap (λ n. over_with (over_all None ds) n h.next.look.start) m.1)) ∙ frames_over ds h.next.look.start e;
      few = omega (arith, g.0.few);
      sized = simp (length-append, length-drop) (omega (arith, g.0.few));
      signs = ap signed (take_at _ _ _ counted ∙ copied) ∙ d.found.signs;
      enters = ap entered (take_at _ _ _ counted ∙ copied) ∙ d.found.enters;
      written = m.3;
    }
