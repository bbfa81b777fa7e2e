-- What the reading functions promise.
use Rattle.std.specs.Prelude.{◌≡◌, ℕ, ◌+◌, ◌*◌, ◌<◌, ◌≤◌, ◌≢◌, false, ◌⊎◌, List, [], ◌∷◌, ◌++◌, length, take, Some, None, Option, Result, MatchResult, ◌==◌}
use Rattle.std.proofs.Math.Option.{none, some}
use Rattle.std.proofs.Math.Option as opt
use Rattle.recipe.specs.declared.Op.{Op}
use Rattle.recipe.specs.declared.Word.{Word as AWord}
use Rattle.recipe.specs.Tokens.{Ident, Token, Name as AName, TheWord, Verdict, fine, wrong, tokens}
use Rattle.recipe.specs.Grammar.{Expr, call, Arguments, one, more, JoinsProducts, JoinsAtoms, Several, one_only, and_then, Declaration, declare, recipe}
use Rattle.recipe.specs.Machine.{code, Left, nothing, left, apply, Context, argument, in_body, State, start, head_open, head_next, want, operand, after_product, after_sum, after_expr}
use Rattle.recipe.specs.Theorem.{first_place}
use Rattle.recipe.specs.Limits.{depth, reading, size}
use Rattle.lexer.specs.Lexed.{rest, Valid, Small, token_of}
use Rattle.lexer.specs.declared.Kind.{Kind}
use Rattle.lexer.specs.declared.Kind.TheVariants.{Name, Operator, Word}
use Rattle.pass.specs.declared.cursor.Spot.{Spot}
use Rattle.recipe.specs.declared.cause.Refusal.{Refusal}
use Rattle.recipe.specs.Causes.{cause_number}
use Rattle.recipe.specs.declared.cause.Cause.{Cause}
use Rattle.recipe.specs.declared.cause.Cause.TheVariants.{Grammar, Nesting, Functions, Parameters as TooManyParameters, Constructs, Frame}
use Rattle.pass.specs.declared.cursor.Level.{Level}
use Rattle.pass.specs.declared.chain.Chain.{Chain}
use Rattle.pass.specs.declared.chain.Chain.TheVariants.{Sum, Product}
use Rattle.pass.specs.declared.cursor.Counted.{Counted}
use Rattle.pass.specs.declared.descent.Descent.{Descent}
use Rattle.recipe.specs.Names.{count as argument_count}
use Rattle.pass.specs.declared.names.Variable.{Variable}
use Rattle.pass.specs.declared.output.Output.{Output}
use Rattle.pass.specs.declared.names.Function.{Function}
use Rattle.pass.specs.Known.{Env, env, ident, in_force, spelled, signed, entered}
use Rattle.recipe.specs.Image.{slots, past, past_all, words, entries, bodies, placed, BACK}
use Rattle.recipe.specs.Frames.{recipe_frames}
use Rattle.pass.specs.declared.passes.Heads.{Heads}
use Rattle.pass.specs.declared.passes.Pass.{Pass}
use Rattle.recipe.specs.Names.{all, twice, declared_names, signatures, earliest, faults, body_faults}
use Rattle.pass.specs.Outputs.{MadeOf, Made, MadeAll, MadeHead, MadeHeads, faulted, again, over_with, over_all}

-- The words are at most two for each construct, two for each function, and those of the main expression, which stand before the functions.
abbrev pub Fit : List ℕ → Spot → Type 0
Fit text s = Valid text s.look × (s.count ≤ 2000) × (s.out.at ≤ 2 * s.count + 4100) × Small s.look.kind

-- A frame holds at most its parameters, and a value for each construct.
abbrev pub Stands : Spot → Level → List Variable → Type 0
Stands s level scope = (level.depth ≤ 32) × (level.held ≤ s.count + 8) × (length scope ≤ level.depth + 8)

abbrev pub AtKind : Spot → Kind → Type 0
AtKind s k = s.look.kind ≡ k

-- the tokens from a spot on
abbrev pub ahead : List ℕ → Spot → List Token
ahead text s = rest text s.look

-- no token `w` comes first
abbrev pub OtherWord : AWord → List Token → Type 0
OtherWord w (TheWord p v ∷ ts) = (code w == code v) ≡ false
OtherWord w _ = Unit {0}

-- no name comes first
abbrev pub NoName : List Token → Type 0
NoName (AName x ∷ ts) = ⊥
NoName _ = Unit {0}

-- Further on: the next spot, with a token `t` between that makes no word.
pub record Past (text : List ℕ) (here : Spot) (t : Token) (s : Spot) : Type 0 where
  pub far : here.look.start < s.look.start
  pub out : s.out ≡ here.out
  pub fit : Fit text s
  pub token : ahead text here ≡ t ∷ ahead text s

abbrev pub refused_at : Spot → Cause → Refusal
refused_at here c = record { cause = c; place = here.look.start }

-- a refusal for the grammar, here
abbrev pub Stops : List ℕ → Spot → Refusal → Type 0
Stops text here e = (e.cause ≡ Grammar) × (e.place ≡ first_place (length text) (ahead text here))

-- no token of the kind comes first, where that is a word or a name
abbrev pub Missing : Kind → List Token → Type 0
Missing (Word w) ts = OtherWord w ts
Missing Name ts = NoName ts
Missing _ ts = Unit {0}

abbrev pub Expects : List ℕ → Spot → Kind → Result Spot Refusal → Type 0
Expects text here kind r =
    MatchResult r (λ s. Past text here (token_of text kind here.look.start here.look.end) s × (s.count ≡ here.count) × (here.look.kind ≡ kind))
    (λ e. Stops text here e × Missing kind (ahead text here) × (here.look.kind ≢ kind))

-- the token of a spot
abbrev pub the_token : List ℕ → Spot → Token
the_token text here = token_of text here.look.kind here.look.start here.look.end

abbrev pub Passes : List ℕ → Spot → Spot → Type 0
Passes text here s = Past text here (the_token text here) s × (s.count ≡ here.count)

abbrev pub Counts : List ℕ → Spot → Result Spot Refusal → Type 0
Counts text here r =
    MatchResult r (λ s. Past text here (the_token text here) s × (s.count ≡ here.count + 1))
    (λ e. (2000 ≤ here.count) × (e.cause ≡ Constructs) × (e.place ≡ here.look.start))

-- One nesting more around an expression, and n values more before it.
abbrev pub nested : Level → Level
nested level = record { depth = level.depth + 1; held = level.held }

abbrev pub holding : Level → ℕ → Level
holding level n = record { depth = level.depth; held = level.held + n }

abbrev pub Nests : Level → Spot → Result Level Refusal → Type 0
Nests level here r = MatchResult r (λ l. (level.depth < 32) × (l ≡ nested level)) (λ e. (32 ≤ level.depth) × (e ≡ refused_at here Nesting))

-- `+` and `-` go on with a sum, `*` and `div` with a product.
abbrev pub JoinsIn : Chain → Op → Type 0
JoinsIn Sum o = JoinsProducts o
JoinsIn Product o = JoinsAtoms o

-- the operator of a token that goes on with a chain
abbrev pub GoesOn : Chain → Kind → Option Op → Type 0
GoesOn chain kind (Some o) = (kind ≡ Operator o) × JoinsIn chain o
GoesOn chain kind None = (o : Op) → kind ≡ Operator o → JoinsIn chain o → ⊥

-- What is read: the states that the machine goes from, and those that it goes to with the tree, wherever that stands in a nesting of d.
abbrev pub From : Type 1
From = ℕ → (State → Type 0) → Type 0

abbrev pub Part : Type 0 → Type 1
Part Tree = Tree → ℕ → (State → State → Type 0) → Type 0

-- With n constructs before, the machine goes on from `ts` as it does from `us` with the tree and m constructs.
pub record Read {Tree : Type 0} (part : Part Tree) (len d n : ℕ) (ts : List Token) (m : ℕ) (us : List Token) : Type 0 where
  pub tree : Tree
  pub goes : part tree d (λ q q'. reading len q n ts ≡ reading len q' m us)

-- Or it refuses, for the cause c at the place p.
pub record BadFrom (from : From) (len d n : ℕ) (ts : List Token) (c p : ℕ) : Type 0 where
  pub stops : from d (λ q. reading len q n ts ≡ wrong c p)

abbrev pub from_expr : From
from_expr d P = (k : Context) → depth k ≡ d → P (want k)

abbrev pub from_atom : From
from_atom d P = (S P' : Left) (k : Context) → depth k ≡ d → P (operand S P' k)

-- The arguments of a call stand in one nesting more than the call, that of its bracket.
abbrev pub from_call : From
from_call d P = (S P' : Left) (f : Ident) (k : Context) → depth k + 1 ≡ d → P (want (argument S P' f none k))

abbrev pub an_expr : Part Expr
an_expr e d R = (k : Context) → depth k ≡ d → R (want k) (after_expr e k)

abbrev pub an_atom : Part Expr
an_atom e d R = (S P : Left) (k : Context) → depth k ≡ d → R (operand S P k) (after_product S (apply P e) k)

abbrev pub a_call : Part Arguments
a_call es d R = (S P : Left) (f : Ident) (k : Context) → depth k + 1 ≡ d → R (want (argument S P f none k)) (after_product S (apply P (call f es)) k)

-- A chain begins where no operand of it has been read: a sum with no sum before it, a product in the sum S.
abbrev pub begins : Chain → Left → Left
begins Sum S = nothing
begins Product S = S

-- after a whole chain, where it may go on, and after an operator that goes on with it
abbrev pub after_chain : Chain → Left → Expr → Context → State
after_chain Sum S e k = after_expr e k
after_chain Product S e k = after_sum (apply S e) k

abbrev pub after_operand : Chain → Left → Expr → Context → State
after_operand Sum S e k = after_sum e k
after_operand Product S e k = after_product S e k

abbrev pub after_operator : Chain → Left → Expr → Op → Context → State
after_operator Sum S e o k = operand (left e o) nothing k
after_operator Product S e o k = operand S (left e o) k

abbrev pub from_chain : Chain → From
from_chain chain d P = (S : Left) (k : Context) → depth k ≡ d → P (operand (begins chain S) nothing k)

abbrev pub a_chain : Chain → Part Expr
a_chain chain e d R = (S : Left) (k : Context) → depth k ≡ d → R (operand (begins chain S) nothing k) (after_chain chain S e k)

-- Inside a loop: the chain so far, the arguments so far.
abbrev pub chain_so_far : Chain → Part Expr
chain_so_far chain e d R = (S : Left) (k : Context) → depth k ≡ d → R (operand (begins chain S) nothing k) (after_operand chain S e k)

abbrev pub after_arguments : Left → Left → Ident → Arguments → Context → State
after_arguments S P f (one e) k = after_expr e (argument S P f none k)
after_arguments S P f (more es e) k = after_expr e (argument S P f (some es) k)

abbrev pub arguments_so_far : Part Arguments
arguments_so_far es d R = (S P : Left) (f : Ident) (k : Context) → depth k + 1 ≡ d → R (want (argument S P f none k)) (after_arguments S P f es k)

-- The operands of a sum are products, those of a product atoms.
abbrev pub from_operand : Chain → From
from_operand Sum = from_chain Product
from_operand Product = from_atom

abbrev pub an_operand : Chain → Part Expr
an_operand Sum = a_chain Product
an_operand Product = an_atom

-- Further on, by at most two words for each construct.
pub record Further (text : List ℕ) (here s : Spot) : Type 0 where
  pub far : here.look.start < s.look.start
  pub more : here.count < s.count
  pub slow : s.out.at + 2 * here.count ≤ here.out.at + 2 * s.count
  pub fit : Fit text s

-- What was read between two spots, of which the output comes.
pub record Through {Tree : Type 0} (part : Part Tree) (Makes : MadeOf Tree) (text : List ℕ) (v : Env) (level : Level) (here : Spot) (m : List ℕ) (s : Spot) (m' : List ℕ) : Type 0 where
  pub on : Further text here s
  pub read : Read part (length text) level.depth here.count (ahead text here) s.count (ahead text s)
  pub made : Makes v level.held here.out m read.tree s.out m'

abbrev pub Refuses : From → List ℕ → Level → Spot → Refusal → Type 0
Refuses from text level here e = BadFrom from (length text) level.depth here.count (ahead text here) (cause_number e.cause) e.place

-- Where a descent may begin: at a spot of its text, with the variables in force.
abbrev pub Ready : Descent → Spot → Level → List Variable → Type 0
Ready d here level scope = Fit d.text.now here × Stands here level scope

abbrev pub knows : Descent → List Variable → Env
knows d scope = env d.functions.now scope

-- The functions' promises.
abbrev pub Goes : Part Expr → From → List ℕ → Env → Spot → Level → List ℕ → Result Spot Refusal → List ℕ → Type 0
Goes part from text v here level m r m' = MatchResult r (λ s. Through part Made text v level here m s m') (λ e. Refuses from text level here e)

-- Arguments, and how many they are: each has a construct at least.
pub record Gives (part : Part Arguments) (text : List ℕ) (v : Env) (level : Level) (here : Spot) (m : List ℕ) (s : Spot) (m' : List ℕ) (n : ℕ) : Type 0 where
  pub through : Through part MadeAll text v level here m s m'
  pub counted : n ≡ argument_count through.read.tree
  pub few : here.count + n ≤ s.count

-- The same of a descent through a text, with the names that it knows.
abbrev pub Descends : Part Expr → From → Descent → List Variable → Spot → Level → List ℕ → Result Spot Refusal → List ℕ → Type 0
Descends part from d scope here level m r m' = Goes part from d.text.now (knows d scope) here level m r m'

abbrev pub GoesCall : List ℕ → Env → Spot → Level → List ℕ → Result Counted Refusal → List ℕ → Type 0
GoesCall text v here level m r m' = MatchResult r (λ g. Gives a_call text v level here m g.next m' g.count) (λ e. Refuses from_call text level here e)

-- Inside a loop, whatever was before it: what was through to its start, with one image or another before that, is through to here.
abbrev pub Carries : Part Expr → List ℕ → Env → Level → Spot → Spot → List ℕ → Spot → List ℕ → Type 0
Carries part text v level here s₀ m₀ s m' =
    Further text here s × ((m : List ℕ) → Through part Made text v level here m s₀ m₀ → Through part Made text v level here m s m')

abbrev pub CarriesAll : List ℕ → Env → Level → Spot → Spot → List ℕ → Spot → List ℕ → ℕ → Type 0
CarriesAll text v level here s₀ m₀ s m' n =
    Further text here s × (here.count + n ≤ s.count) ×
    ((m : List ℕ) → Gives arguments_so_far text v level here m s₀ m₀ 1 → Gives arguments_so_far text v level here m s m' n)

-- A parameter more, after those in force.
pub record Taken (text : List ℕ) (here : Spot) (scope : List Variable) (s : Spot) (scope' : List Variable) : Type 0 where
  pub few : length scope < 8
  pub far : here.look.start < s.look.start
  pub fit : Fit text s
  pub token : ahead text here ≡ AName (ident text here.look) ∷ ahead text s
  pub same : s.count ≡ here.count
  pub out : s.out ≡ faulted here.out (again (spelled (in_force scope)) (ident text here.look))
  pub counted : length scope' ≡ length scope + 1
  pub known : in_force scope' ≡ record { name = (ident text here.look).name; to = length scope } ∷ in_force scope

abbrev pub Takes : List ℕ → Spot → List Variable → Result Spot Refusal → List Variable → Type 0
Takes text here scope r scope' =
    MatchResult r (λ s. Taken text here scope s scope')
    (λ e. (Stops text here e × NoName (ahead text here))
    ⊎ ((8 ≤ length scope) × (e.cause ≡ TooManyParameters) × (e.place ≡ here.look.start) × ((us : List Token) × (ahead text here ≡ AName (ident text here.look) ∷ us))))

-- A declaration from its bracket on, with those before it; its names so far; the declarations so far.
pub record ReadHead (len n : ℕ) (ts : List Token) (m : ℕ) (us : List Token) : Type 0 where
  pub names : Several Ident
  pub tree : Expr
  pub goes : (D : opt.Option (Several Declaration)) (f : Ident) → reading len (head_open D f) n ts ≡ reading len (after_expr tree (in_body D f names)) m us

pub record BadHead (len n : ℕ) (ts : List Token) (c p : ℕ) : Type 0 where
  pub stops : (D : opt.Option (Several Declaration)) (f : Ident) → reading len (head_open D f) n ts ≡ wrong c p

pub record NamesSoFar (len n : ℕ) (ts : List Token) (s m : ℕ) (us : List Token) : Type 0 where
  pub names : Several Ident
  pub sized : size names ≡ s
  pub goes : (D : opt.Option (Several Declaration)) (f : Ident) → reading len (head_open D f) n ts ≡ reading len (head_next D f names) m us

abbrev pub after_declarations : Several Declaration → State
after_declarations (one_only (declare f xs e)) = after_expr e (in_body none f xs)
after_declarations (and_then ds (declare f xs e)) = after_expr e (in_body (some ds) f xs)

pub record DeclarationsSoFar (len : ℕ) (ts : List Token) (s m : ℕ) (us : List Token) : Type 0 where
  pub declared : Several Declaration
  pub sized : size declared ≡ s
  pub goes : reading len start 0 ts ≡ reading len (after_declarations declared) m us

-- The parameters so far, with their slots.
pub record ParametersMade (o : Output) (xs : Several Ident) (scope : List Variable) (o' : Output) : Type 0 where
  pub known : in_force scope ≡ slots [] 0 (all xs)
  pub out : o' ≡ faulted o (twice [] (all xs))

pub record ParametersSoFar (text : List ℕ) (here s : Spot) (scope : List Variable) : Type 0 where
  pub far : here.look.start < s.look.start
  pub fit : Fit text s
  pub same : s.count ≡ here.count
  pub few : length scope ≤ 8
  pub read : NamesSoFar (length text) here.count (ahead text here) (length scope) s.count (ahead text s)
  pub made : ParametersMade here.out read.names scope s.out

pub record Headed (text : List ℕ) (functions : List Function) (here : Spot) (m : List ℕ) (d : Counted) (m' : List ℕ) : Type 0 where
  pub far : here.look.start < d.next.look.start
  pub slow : d.next.out.at + 2 * here.count ≤ here.out.at + 2 * d.next.count + 2
  pub fit : Fit text d.next
  pub read : ReadHead (length text) here.count (ahead text here) d.next.count (ahead text d.next)
  pub made : MadeHead (signed functions) (entered functions) here.out m read.names read.tree d.next.out m'
  pub counted : d.count ≡ length (all read.names)

abbrev pub GoesHead : List ℕ → List Function → Spot → List ℕ → Result Counted Refusal → List ℕ → Type 0
GoesHead text functions here m r m' =
    MatchResult r (λ d. Headed text functions here m d m') (λ e. BadHead (length text) here.count (ahead text here) (cause_number e.cause) e.place)

-- A function's name where `before` others stand before it.
abbrev pub Unlimited : List ℕ → Spot → ℕ → Refusal → Type 0
Unlimited text here before e =
    (Stops text here e × NoName (ahead text here))
    ⊎ ((32 ≤ before) × (e.cause ≡ Functions) × (e.place ≡ here.look.start) × ((us : List Token) × (ahead text here ≡ AName (ident text here.look) ∷ us)))

abbrev pub Limited : List ℕ → Spot → ℕ → Result Spot Refusal → Type 0
Limited text here before r =
    MatchResult r (λ s. (before < 32) × Past text here (AName (ident text here.look)) s × (s.count ≡ here.count)) (λ e. Unlimited text here before e)

-- The declarations so far, whose words begin at `base`: the functions found, and what was read and made.
pub record Tabled (base : ℕ) (ds : List Declaration) (h : Heads) : Type 0 where
  pub framed : h.over ≡ over_all None ds
  pub signs : signed h.functions.items ≡ signatures ds
  pub enters : entered h.functions.items ≡ entries base ds

pub record DeclarationsMade (text : List ℕ) (functions : List Function) (base : ℕ) (m : List ℕ) (h : Heads) (m' : List ℕ) : Type 0 where
  pub read : DeclarationsSoFar (length text) (tokens text) (length h.functions.items) h.next.count (ahead text h.next)
  pub made : MadeHeads (signed functions) (entered functions) base m (all read.declared) h.next.out m'
  pub found : Tabled base (all read.declared) h

pub record DeclarationsOn (text : List ℕ) (h : Heads) : Type 0 where
  pub few : length h.functions.items ≤ 32
  pub fit : Fit text h.next
  pub slow : h.next.out.at ≤ 4036 + 2 * h.next.count + 2 * length h.functions.items

-- Past the name of a function, which may be one of those before it, with an empty frame.
pub record PastName (text : List ℕ) (h : Heads) (s : Spot) : Type 0 where
  pub few : length h.functions.items < 32
  pub token : ahead text h.next ≡ AName (ident text h.next.look) ∷ ahead text s
  pub same : s.count ≡ h.next.count
  pub index : s.out.at ≡ h.next.out.at
  pub peak : s.out.peak ≡ 0
  pub fault : s.out.fault ≡ earliest h.next.out.fault (again (spelled (entered h.functions.items)) (ident text h.next.look))

-- One function more, whose name was ahead.
pub record With (text : List ℕ) (h : Heads) (d : Counted) (h' : Heads) : Type 0 where
  pub next : h'.next ≡ d.next
  pub over : h'.over ≡ over_with h.over d.next.out.peak h.next.look.start
  pub function : Function
  pub listed : h'.functions.items ≡ h.functions.items ++ (function ∷ [])
  pub named : function.name.now ≡ (ident text h.next.look).name
  pub takes : function.arity ≡ d.count
  pub begins : function.target ≡ h.next.out.at + 1

pub record Added (text : List ℕ) (functions : List Function) (h : Heads) (m : List ℕ) (h' : Heads) (m' : List ℕ) : Type 0 where
  pub inside : Spot
  pub declared : Counted
  pub named : PastName text h inside
  pub headed : Headed text functions inside m declared m'
  pub more : With text h declared h'
  pub on : DeclarationsOn text h'
  pub far : h.next.look.start < h'.next.look.start

abbrev pub GoesDeclaration : List ℕ → List Function → Heads → List ℕ → Result Unit Refusal → Heads → List ℕ → Type 0
GoesDeclaration text functions h m r h' m' =
    MatchResult r (λ _. Added text functions h m h' m')
    (λ e. Unlimited text h.next (length h.functions.items) e
    ⊎ ((s : Spot) × PastName text h s × BadHead (length text) s.count (ahead text s) (cause_number e.cause) e.place))

abbrev pub CarriesDeclarations : List ℕ → List Function → ℕ → Heads → List ℕ → Heads → List ℕ → Type 0
CarriesDeclarations text functions base h₀ m₀ h m' =
    DeclarationsOn text h × ((m : List ℕ) → DeclarationsMade text functions base m h₀ m₀ → DeclarationsMade text functions base m h m')

abbrev pub GoesDeclarations : List ℕ → List Function → ℕ → List ℕ → Result Heads Refusal → List ℕ → Type 0
GoesDeclarations text functions base m r m' =
    MatchResult r
    (λ h. DeclarationsOn text h × DeclarationsMade text functions base m h m' × NoName (ahead text h.next))
    (λ e. reading (length text) start 0 (tokens text) ≡ wrong (cause_number e.cause) e.place)

-- A frame that is too large, at its place.
abbrev pub frame_verdict : Option ℕ → Verdict Unit
frame_verdict None = fine tt
frame_verdict (Some p) = wrong (cause_number Frame) p

-- The functions that a pass found, which stand first in its table.
abbrev pub functions_of : Pass → List Function
functions_of p = take p.count p.table

-- A whole recipe, whose functions' words begin at `base`.
pub record Passed (text : List ℕ) (functions : List Function) (base : ℕ) (m : List ℕ) (p : Pass) (m' : List ℕ) : Type 0 where
  pub declared : Several Declaration
  pub at_in : ℕ
  pub main : Expr
  pub reads : reading (length text) start 0 (tokens text) ≡ fine (recipe declared at_in main)
  pub functions_end : p.past_functions ≡ past_all base (all declared)
  pub main_end : p.past_main.index ≡ past 1 main + 1
  pub faulty : p.fault ≡ earliest None (twice [] (declared_names (all declared)) ++ (body_faults (signed functions) (all declared) ++ faults (signed functions) [] main))
  pub framed : frame_verdict p.over ≡ recipe_frames (recipe declared at_in main)
  pub few : p.count ≤ 32
  pub sized : length p.table ≡ 32
  pub signs : signed (functions_of p) ≡ signatures (all declared)
  pub enters : entered (functions_of p) ≡ entries base (all declared)
  pub written : m' ≡ placed (placed m base (bodies (entered functions) base (all declared))) 1 (words (entered functions) [] 0 1 main ++ (BACK ∷ []))

-- A pass over a text, with functions that are known.
abbrev pub GoesRecipe : List ℕ → List Function → ℕ → List ℕ → Result Pass Refusal → List ℕ → Type 0
GoesRecipe text functions base m r m' =
    MatchResult r (λ p. Passed text functions base m p m') (λ e. reading (length text) start 0 (tokens text) ≡ wrong (cause_number e.cause) e.place)

-- A pass from any index; or none, and nothing is written, where the functions' words would begin beyond 4,036.
abbrev pub GoesOver : List ℕ → List Function → ℕ → List ℕ → Option (Result Pass Refusal) → List ℕ → Type 0
GoesOver text functions base m None m' = (4036 < base) × (m' ≡ m)
GoesOver text functions base m (Some r) m' = GoesRecipe text functions base m r m'
