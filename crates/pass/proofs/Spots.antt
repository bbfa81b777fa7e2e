-- From one spot to the next.
use Rattle.std.proofs.Common.{◌≡◌, ℕ, ◌+◌, ◌*◌, ◌<◌, ◌≤◌, List, ◌∷◌, length, refl, arith}
use Rattle.std.specs.Prelude.{Result, MatchResult, IsErrAnd}
use Rattle.std.proofs.lemmas.Result.{err_from_is_err_and}
use Rattle.lexer.specs.Lexed.{token_of}
use Rattle.lexer.specs.declared.Kind.{Kind}
use Rattle.pass.specs.declared.output.Output.{Output}
use Rattle.pass.specs.declared.cursor.Spot.{Spot}
use Rattle.pass.specs.declared.cursor.Level.{Level}
use Rattle.pass.specs.Known.{Env}
use Rattle.pass.specs.Outputs.{Made}
use Rattle.pass.specs.declared.chain.Chain.{Chain}
use Rattle.pass.specs.declared.chain.Chain.TheVariants.{Sum, Product}
use Rattle.recipe.specs.declared.cause.Refusal.{Refusal}
use Rattle.pass.specs.Reads.{Past, the_token, ahead, Fit, Further, Through, Gives, an_expr, an_operand, chain_so_far, arguments_so_far}
use Rattle.pass.proofs.Steps.{known_token, arguments_first, chain_first}
use Rattle.pass.proofs.Makes.{made_one}

pub further : {text : List ℕ} {here : Spot} → Fit text here → (x : Spot) → Fit text x → here.look.start < x.look.start → here.count < x.count →
    (o : Output) → o.at + 2 * here.count ≤ here.out.at + 2 * x.count → Further text here (record { look = x.look; count = x.count; out = o })
further v x f far more o slow = record { far = far; more = more; slow = slow; fit = (f.0, f.1, omega (arith, v.2), f.3) }

-- Past a token whose kind is known.
pub past_kind : {text : List ℕ} {here s : Spot} {k : Kind} → here.look.kind ≡ k → Past text here (the_token text here) s →
    ahead text here ≡ token_of text k here.look.start here.look.end ∷ ahead text s
past_kind {text = text} {here = here} e p = known_token text here.look.start here.look.end e p.token

-- What is returned where a call is refused.
pub exit : {T : Type 0} (r : Result T Refusal) {e : Refusal} (P : T → Type 0) (Q : Refusal → Type 0) → IsErrAnd r (λ y. y ≡ e) → Q e → MatchResult r P Q
exit r P Q h q = let p = err_from_is_err_and r h in rw (p.1, p.2) q

-- What a loop begins with.
pub first_argument : {text : List ℕ} {v : Env} {level : Level} {here s : Spot} {m m' : List ℕ} → Through an_expr Made text v level here m s m' → Gives arguments_so_far text v level here m s m' 1
unfolding arguments_first
first_argument {text = text} r = record { through = record { on = r.on; read = arguments_first (length text) r.read; made = made_one r.made }; counted = refl; few = omega (arith, r.on.more) }

pub first_operand : (chain : Chain) {text : List ℕ} {v : Env} {level : Level} {here s : Spot} {m m' : List ℕ} →
    Through (an_operand chain) Made text v level here m s m' → Through (chain_so_far chain) Made text v level here m s m'
unfolding chain_first
first_operand chain {text = text} r = record { on = r.on; read = chain_first (length text) chain r.read; made = r.made }

-- How many calls of the descent may come one after another at a spot.
abbrev pub rank : Chain → ℕ
rank Sum = 2
rank Product = 0
