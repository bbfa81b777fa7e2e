use Rattle.std.proofs.Common.{rules, ◌≡◌, Some, None, option_map, ap, ◌∙◌}
use Rattle.shelf.specs.Kept.{entry_of}
use Rattle.shelf.proofs.Entries.{found_shown}
use Rattle.shelf.proofs.kept.Shelf.image.Goals as goal

pub returns : goal.returns
returns c =
    ap Some c.as_slice.ensures.value ∙
    ap (option_map (λ e. e.words)) (ap (option_map entry_of) c.in_ok-get.ensures.value ∙ found_shown c.args.name.now c.args.self.now.recipes.entries)

pub returns-in_err-get : goal.returns-in_err-get
returns-in_err-get c =
    let none : c.from_residual.result ≡ None = search rules in
    ap (option_map (λ x. x.now)) none ∙
    ap (option_map (λ e. e.words)) (ap (option_map entry_of) c.in_err-get.ensures.value ∙ found_shown c.args.name.now c.args.self.now.recipes.entries)
