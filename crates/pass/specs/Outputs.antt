-- What the words of a tree come to.
use Rattle.std.specs.Prelude.{◌≡◌, ℕ, ◌+◌, ◌<◌, ◌≤◌, max, cond, List, [], ◌∷◌, ◌++◌, length, Some, None, Option, nat_le}
use Rattle.recipe.specs.Grammar.{Expr, Arguments, Several, Declaration, declare}
use Rattle.recipe.specs.Tokens.{Ident}
use Rattle.recipe.specs.Names.{Signature, among, all, names_of, twice, declared_names, earliest, faults, faults_of, body_faults}
use Rattle.recipe.specs.Image.{Bound, past, pasts, NUM, VAR, OP, OUT, UNLESS, GO, CALL, BACK, WEIGH, FN, words, arguments, slots, placed, past_all, bodies}
use Rattle.pass.specs.declared.instruction.Instruction.{Instruction}
use Rattle.pass.specs.declared.instruction.Instruction.TheVariants.{Number, Variable, Operator, Out, Unless, Go, Call, Back, Weigh, Function}
use Rattle.recipe.specs.Frames.{need, needs}
use Rattle.pass.specs.declared.output.Output.{Output}
use Rattle.recipe.specs.declared.cause.Refusal.{Refusal}
use Rattle.recipe.specs.declared.cause.Cause.TheVariants.{DeclaredTwice}
use Rattle.pass.specs.Known.{Env, spelled}

-- One word more; a word that puts a value on a frame of h values.
abbrev pub emitted : Output → Output
emitted o = record { at = o.at + 1; peak = o.peak; fault = o.fault }

abbrev pub pushed : ℕ → Output → Output
pushed h o = record { at = o.at + 1; peak = max o.peak (h + 1); fault = o.fault }

abbrev pub faulted : Output → List Refusal → Output
faulted o fs = record { at = o.at; peak = o.peak; fault = earliest o.fault fs }

-- The word of an instruction.
abbrev pub word_for : Instruction → ℕ
word_for (Number n) = NUM n
word_for (Variable slot) = VAR slot
word_for (Operator o) = OP o
word_for Out = OUT
word_for (Unless target) = UNLESS target
word_for (Go target) = GO target
word_for (Call arity target) = CALL arity target
word_for Back = BACK
word_for (Weigh channel) = WEIGH channel
word_for (Function arity) = FN arity

-- A word has room for its operand.
abbrev pub Holds : Instruction → Type 0
Holds (Number n) = n ≤ 268435455
Holds (Variable slot) = Unit {0}
Holds (Operator o) = Unit {0}
Holds Out = Unit {0}
Holds (Unless target) = Unit {0}
Holds (Go target) = Unit {0}
Holds (Call arity target) = arity < 4096
Holds Back = Unit {0}
Holds (Weigh channel) = channel ≤ 268435455
Holds (Function arity) = Unit {0}

-- From the output o and the image m a tree comes to o' and m', on a frame of h values.
abbrev pub MadeOf : Type 0 → Type 1
MadeOf Tree = Env → ℕ → Output → List ℕ → Tree → Output → List ℕ → Type 0

pub record Made (v : Env) (h : ℕ) (o : Output) (m : List ℕ) (e : Expr) (o' : Output) (m' : List ℕ) : Type 0 where
  pub index : o'.at ≡ past o.at e
  pub peak : o'.peak ≡ max o.peak (h + need e)
  pub fault : o'.fault ≡ earliest o.fault (faults v.signatures (spelled v.in_scope) e)
  pub written : m' ≡ placed m o.at (words v.entries v.in_scope h o.at e)

pub record MadeAll (v : Env) (h : ℕ) (o : Output) (m : List ℕ) (es : Arguments) (o' : Output) (m' : List ℕ) : Type 0 where
  pub index : o'.at ≡ pasts o.at es
  pub peak : o'.peak ≡ max o.peak (h + needs es)
  pub fault : o'.fault ≡ earliest o.fault (faults_of v.signatures (spelled v.in_scope) es)
  pub written : m' ≡ placed m o.at (arguments v.entries v.in_scope h o.at es)

-- A name that stands before.
abbrev pub again : List (List ℕ) → Ident → List Refusal
again before x = cond (among before x.name) (record { place = x.place; cause = DeclaredTwice } ∷ []) []

-- A declaration's parameters and body.
pub record MadeHead (F : List Signature) (Φ : List Bound) (o : Output) (m : List ℕ) (xs : Several Ident) (e : Expr) (o' : Output) (m' : List ℕ) : Type 0 where
  pub index : o'.at ≡ past (o.at + 1) e + 1
  pub peak : o'.peak ≡ max o.peak (length (all xs) + need e)
  pub fault : o'.fault ≡ earliest o.fault (twice [] (all xs) ++ faults F (names_of (all xs)) e)
  pub written : m' ≡ placed m o.at (FN (length (all xs)) ∷ (words Φ (slots [] 0 (all xs)) (length (all xs)) (o.at + 1) e ++ (BACK ∷ [])))

-- Declarations, whose words begin at `base`.
pub record MadeHeads (F : List Signature) (Φ : List Bound) (base : ℕ) (m : List ℕ) (ds : List Declaration) (o : Output) (m' : List ℕ) : Type 0 where
  pub index : o.at ≡ past_all base ds
  pub fault : o.fault ≡ earliest None (twice [] (declared_names ds) ++ body_faults F ds)
  pub written : m' ≡ placed m base (bodies Φ base ds)

-- The place of the first frame over 32 values, with one more that holds n at the place p; and with those of functions.
abbrev pub over_with : Option ℕ → ℕ → ℕ → Option ℕ
over_with (Some q) n p = Some q
over_with None n p = cond (nat_le n 32) None (Some p)

abbrev pub over_all : Option ℕ → List Declaration → Option ℕ
over_all over [] = over
over_all over (declare f xs e ∷ ds) = over_all (over_with over (length (all xs) + need e) f.place) ds
