use Rattle.std.proofs.Common.{length, refl, subst, inl, inr, arith}
use Rattle.pass.specs.Known.{ident}
use Rattle.lexer.specs.declared.Kind.TheVariants.{Name}
use Rattle.pass.specs.Reads.{NoName}
use Rattle.pass.proofs.Steps.{known_ahead, nameless, declarations_too_many, declarations_more_bad}
use Rattle.pass.proofs.Spots.{exit}
use Rattle.pass.proofs.Recipes.{recipe_first, recipe_first_bad, recipe_more}
use Rattle.pass.proofs.descent.Descent.declarations.Goals as goal

pub returns-in_err-declaration : goal.returns-in_err-declaration
returns-in_err-declaration c =
    let o = c.in_ok-expect.ensures in
    exit _ _ _ c.from_residual-in_err-declaration.ensures.1
    (recipe_first_bad c.args.self.now.text.now c.in_err-declaration.field-0.0 refl c.next_token.ensures.reads o.0 o.1 c.new.ensures c.in_err-declaration.ensures)

pub returns-in_err-declaration-2 : goal.returns-in_err-declaration-2
returns-in_err-declaration-2 c =
    let text = c.args.self.now.text.now in
    let l = c.loop-heads.heads.next.look in
    let o = c.in_ok-expect.ensures in
    let first = recipe_first text c.args.self.now.functions.now c.args.base.index refl refl refl c.next_token.ensures.reads o.0 o.1 refl c.new.ensures c.in_ok-declaration.ensures in
    let i = c.loop-heads.invariant.1 c.args.image.now first in
    exit _ _ _ c.from_residual-in_err-declaration-2.ensures.1 (elim c.in_err-declaration-2.ensures [
      | inl u ↦ elim u [
        | inl b ↦ absurd (subst NoName (known_ahead text {k' = Name} l.start l.end (grind arith)) b.1)
        | inr b ↦ rw (b.1, b.2) (declarations_too_many (length text) (ident text l) i.read b.3.1 b.0)
      ]
      | inr b ↦ declarations_more_bad (length text) (ident text l) i.read b.1.token b.1.few b.1.same b.2
    ])

pub loop-heads-preserved : goal.loop-heads-preserved
loop-heads-preserved c =
    let r = c.in_ok-declaration-2.ensures in
    (r.on, λ m g. recipe_more c.args.self.now.text.now c.args.self.now.functions.now c.args.base.index (c.loop-heads.invariant.1 m g) r)

pub returns : goal.returns
returns c =
    let text = c.args.self.now.text.now in
    let l = c.loop-heads.heads.next.look in
    let j = c.loop-heads.invariant in
    let o = c.in_ok-expect.ensures in
    let first = recipe_first text c.args.self.now.functions.now c.args.base.index refl refl refl c.next_token.ensures.reads o.0 o.1 refl c.new.ensures c.in_ok-declaration.ensures in
    (j.0, j.1 c.args.image.now first, nameless text l.kind l.start l.end (grind arith))
