use Rattle.std.proofs.Common.{rules, ◌≡◌, false, length, take, map, vec_items, vec_len, Err, sym, ap, ◌∙◌, subst}
use Rattle.recipe.specs.Causes.{cause_number, fine}
use Rattle.recipe.specs.Compiled.{accepted, compile_answer, answered, image_after}
use Rattle.shelf.specs.declared.errors.NotKept.TheVariants as the
use Rattle.shelf.specs.declared.errors.CompileError.TheVariants as error
use Rattle.shelf.specs.Kept.{Compiles, answer_at, full, kept_by, with_recipes}
use Rattle.shelf.proofs.Answered.{cause_told, refilled, words_taken, words_told}
use Rattle.shelf.proofs.Entries.{few_after, ends_accepted, ends_refused, put_shown, shown}
use Rattle.shelf.proofs.kept.Shelf.compile.Goals as goal
use Rattle.shelf.proofs.kept.Shelf.compile.Goals.{After-compile}

-- There was a place for the name.
open_for : (c : After-compile) → full c.args.name.items (kept_by c.args.self.now).recipes ≡ false
open_for c =
    ap (λ n. full n (kept_by c.args.self.now).recipes) (sym c.deref.ensures.value) ∙ (sym c.is_full.ensures ∙ c.if-is_full.false)

-- The memory that is lent has as many words as there is room for.
lent : (c : After-compile) →
    compile_answer c.deref-2.result.now (length c.deref_mut.result.now) (length c.deref_mut-2.result.now) ≡ answer_at c.args.text.items c.args.self.now.room
unfolding answer_at
lent c =
    let i : length c.deref_mut.result.now ≡ c.args.self.now.room.image = c.deref_mut.ensures.len ∙ c.in_ok-image.ensures.len in
    let t : length c.deref_mut-2.result.now ≡ c.args.self.now.room.table = c.deref_mut-2.ensures.len ∙ c.in_ok-table.ensures.len in
    ap (λ s. compile_answer s (length c.deref_mut.result.now) (length c.deref_mut-2.result.now)) c.deref-2.ensures.value ∙
    (ap (λ n. compile_answer c.args.text.items n (length c.deref_mut-2.result.now)) i ∙ ap (compile_answer c.args.text.items c.args.self.now.room.image) t)

pub returns-in-Err : goal.returns-in-Err
returns-in-Err c =
    let b = (goal.at.returns-in-Err c).After-compile in
    let k = kept_by c.args.self.now in
    let r = c.in-Err.refusal in
    let e : c.into-in-Err.result ≡ error.NotKept (the.Refused r c.args.text) = search rules in
    subst (λ x. Compiles c.args.name.items c.args.text.items k (Err x) k) (sym e)
    (ends_refused c.args.name.items c.args.text.items (cause_number r.cause) r.place k (open_for b) (cause_told _ _ _ c.in-Err.ensures.answer.answers ∙ lent b))

pub returns : goal.returns
returns c =
    let b = (goal.at.returns c).After-compile in
    let k = kept_by c.args.self.now in
    let n = c.in-Ok.words in
    let after = c.compile.new.image in
    let answer = compile_answer c.deref-2.result.now (length c.deref_mut.result.now) (length c.deref_mut-2.result.now) in
    let whole : length after ≡ vec_len c.in_ok-image.image = c.compile.auto.image ∙ c.deref_mut.ensures.len in
    let taken : vec_items c.truncate.new.self ≡ take n after = c.truncate.ensures.items ∙ ap (take n) (refilled after _ _ whole) in
    let answers : fine n ≡ answered answer = c.in-Ok.ensures.answer.answers in
    let writes : after ≡ image_after answer c.deref_mut.result.now = c.in-Ok.ensures.answer.writes in
    let a : accepted (vec_items c.truncate.new.self) ≡ answer = ap accepted taken ∙ words_taken answer c.deref_mut.result.now after n answers writes in
    ends_accepted c.args.name.items c.args.text.items (vec_items c.truncate.new.self) k (record { recipes = map shown c.insert.new.self.entries; room = k.room }) n (open_for b)
    (a ∙ lent b) (words_told n (vec_items c.truncate.new.self) answer answers a)
    (ap (with_recipes k) (ap (map shown) c.in_ok-insert.ensures.entries ∙ put_shown c.args.self.now.recipes.entries c.args.name (record { text = c.args.text; image = c.truncate.new.self })))

pub invariant_of-self : goal.invariant_of-self
invariant_of-self c =
    let b = (goal.at.invariant_of-self c).After-compile in
    record {
      few = few_after c.args.name.items c.args.self.now.recipes.entries c.insert.new.self.entries (open_for b) c.args.self.now.few c.insert.result
          c.insert.ensures.len c.insert.ensures.old c.insert.ensures.err;
    }
