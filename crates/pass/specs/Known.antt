-- The names that are known at a place: the functions, and the variables in force.
use Rattle.std.specs.Prelude.{ℕ, List, map, reverse, Option}
use Rattle.std.specs.List.{between, find}
use Rattle.std.specs.Str.{bytes_eq}
use Rattle.recipe.specs.Tokens.{Ident}
use Rattle.recipe.specs.Names.{Signature}
use Rattle.recipe.specs.Image.{Bound}
use Rattle.lexer.specs.declared.Lexeme.{Lexeme}
use Rattle.pass.specs.declared.names.Function.{Function}
use Rattle.pass.specs.declared.names.Variable.{Variable}

pub record Env : Type 0 where
  pub signatures : List Signature
  pub entries : List Bound
  pub in_scope : List Bound

-- The name that a lexeme spells.
abbrev pub ident : List ℕ → Lexeme → Ident
ident text l = record { place = l.start; name = between l.start l.end text }

-- The functions of a table, in its order.
abbrev pub signed : List Function → List Signature
signed functions = map (λ f. record { name = f.name.now; arity = f.arity }) functions

abbrev pub entered : List Function → List Bound
entered functions = map (λ f. record { name = f.name.now; to = f.target }) functions

abbrev pub first_of : List Function → List ℕ → Option Function
first_of functions x = find (λ f. bytes_eq x f.name.now) functions

-- The variables in force, the newest first.
abbrev pub bound : Variable → Bound
bound v = record { name = v.name.now; to = v.slot }

abbrev pub in_force : List Variable → List Bound
in_force scope = map bound (reverse scope)

abbrev pub newest_of : List Variable → List ℕ → Option Variable
newest_of scope x = find (λ v. bytes_eq x v.name.now) (reverse scope)

abbrev pub spelled : List Bound → List (List ℕ)
spelled bounds = map (λ b. b.name) bounds

abbrev pub env : List Function → List Variable → Env
env functions scope = record { signatures = signed functions; entries = entered functions; in_scope = in_force scope }
