-- A line by its first word.
use Rattle.std.proofs.Common.{◌≡◌, ℕ, Bool, true, false, cond, ◌&&◌, eqb, List, [], ◌∷◌, Some, None, Ok, Err, Option, Result, sym, refl, ap, ◌∙◌, subst, arith}
use Rattle.std.specs.List.{slice_get, starts_with}
use Rattle.std.specs.Option.{option_map}
use Rattle.std.specs.Result.{MatchResult, IsOkAnd}
use Rattle.std.proofs.lemmas.Bool.{both_ways, ne_eqb, eq-eqb}
use Rattle.command.specs.declared.types.Command.{Command}
use Rattle.command.specs.declared.types.Verb.{Verb}
use Rattle.command.specs.declared.types.Misreading.{Misreading}
use Rattle.command.specs.declared.types.ParseError.{ParseError}
use Rattle.command.specs.declared.types.ParseError.TheVariants.{Misread, Memory}
use Rattle.command.specs.Words.{first, later}
use Rattle.command.specs.Names.{verb_of}
use Rattle.command.specs.Arguments.{given}
use Rattle.command.specs.Understood.{Asked, Gives, arguments, asked, by_verb, by_words, lists, lists_of, note, refused}

abbrev some_of : Result Asked Misreading → Result (Option Asked) Misreading
some_of m = given m (λ a. Ok (Some a))

alone : (t : Bool) → t && true ≡ false → t ≡ false
alone true e = e
alone false e = refl

no_note : (w : List ℕ) → starts_with eqb w (35 ∷ []) ≡ false → note w ≡ false
no_note [] e = refl
no_note (b ∷ bs) e = ne_eqb b 35 (λ q. both_ways (eqb 35 b) (alone (eqb 35 b) e) (eq-eqb 35 b (sym q)))

-- The first word of a line names the command v, and rest are the words after it.
pub record Named (ws rest : List (List ℕ)) (v : Verb) : Type 0 where
  pub meaning : some_of (refused (arguments v rest)) ≡ by_words ws
  pub memory : lists v ≡ lists_of (verb_of (first ws))

pub named : (ws rest : List (List ℕ)) (w : List ℕ) (v : Verb) → Some w ≡ slice_get ws 0 → rest ≡ later ws → starts_with eqb w (35 ∷ []) ≡ false → Some v ≡ verb_of w → Named ws rest v
named [] rest w v is left sign e = let z : ◌≡◌ {A = ℕ} 0 1 = cc in absurd (omega arith)
named (u ∷ us) rest w v is left sign e =
    let same : w ≡ u = cc in
    record {
      meaning =
          (λ i. some_of (by_verb (e i) (left i))) ∙
          sym (ap (λ t. cond t (Ok None) (some_of (by_verb (verb_of w) us))) (no_note w sign)) ∙
          ap (λ x. cond (note x) (Ok None) (some_of (by_verb (verb_of x) us))) same;
      memory = ap lists_of (e ∙ ap verb_of same);
    }

-- What the command gives is what the line gives.
pub given_by : (ws rest : List (List ℕ)) (v : Verb) (r : Result Command ParseError) (s : Result (Option Command) ParseError) → Named ws rest v →
    Gives asked (refused (arguments v rest)) (lists v) r → MatchResult r (λ c. IsOkAnd s (λ o. o ≡ Some c)) (λ d. s ≡ Err d) →
    Gives (option_map asked) (by_words ws) (lists_of (verb_of (first ws))) s
given_by ws rest v (Ok c) (Ok o) n g m = ap (λ q. Ok (option_map asked q)) m ∙ (ap some_of g ∙ n.meaning)
given_by ws rest v (Ok c) (Err d) n g m = absurd m
given_by ws rest v (Err (Misread x)) s n g m = let P : Result (Option Command) ParseError → Type 0 = λ q. Gives (option_map asked) (by_words ws) (lists_of (verb_of (first ws))) q in subst P (sym m) (ap some_of g ∙ n.meaning)
given_by ws rest v (Err (Memory x)) s n g m = let P : Result (Option Command) ParseError → Type 0 = λ q. Gives (option_map asked) (by_words ws) (lists_of (verb_of (first ws))) q in subst P (sym m) (sym n.memory ∙ g)
