-- What one call's promise and the next one's give together.
use Rattle.std.proofs.Common.{◌≡◌, ℕ, ◌+◌, ◌<◌, ◌≤◌, false, cond, leb, ◌==◌, List, [], ◌∷◌, get_or, inl, inr, sym, refl, ap, ◌∙◌, arith}
use mathlib.Core.Option.{Option, none, some}
use Rattle.std.specs.Prelude.{None}
use Rattle.std.proofs.lemmas.Bool.{le-leb, lt-leb}
use Rattle.std.proofs.lemmas.Bool.Decides.{eqb_tells}
use Rattle.recipe.specs.declared.Op.{Op}
use Rattle.recipe.specs.declared.Op.TheVariants.{Plus, Minus, Times, Over}
use Rattle.recipe.specs.declared.Word.{Word}
use Rattle.recipe.specs.declared.Word.TheVariants.{Let, In, Ifp, Then, Else, Weigh, Open, Close, Comma, Equals}
use Rattle.recipe.specs.Tokens.{Ident, Literal, Token, Number, Name, Operator, TheWord, Bad, Verdict, fine, wrong}
use Rattle.recipe.specs.Grammar.{Expr, num, var, op, let_in, ifp, call, weigh, group, Arguments, one, more, Several, one_only, and_then, Declaration, declare}
use Rattle.recipe.specs.Grammar.{Recipe, recipe, by_plus, by_minus, by_times, by_over}
use Rattle.recipe.specs.Machine.{code, Left, nothing, left, apply, Context, in_body, in_main, let_value, let_body, if_test, if_then, if_else, bracket, argument}
use Rattle.recipe.specs.Machine.{State, start, first_head, head_open, head_name, head_next, head_equals, want, let_name, let_equals, operand, weighed, named}
use Rattle.recipe.specs.Machine.{after_product, after_sum, after_expr}
use Rattle.recipe.specs.Limits.{depth, unless, reading, size}
use Rattle.lexer.specs.Lexed.{token_of, then_from}
use Rattle.lexer.specs.declared.Kind.{Kind}
use Rattle.lexer.specs.declared.Kind.TheVariants.{Number as KNumber, Name as KName, Operator as KOperator, Word as KWord, Bad as KBad, End as KEnd}
use Rattle.recipe.specs.Theorem.{first_place}
use Rattle.pass.specs.declared.chain.Chain.{Chain}
use Rattle.pass.specs.declared.chain.Chain.TheVariants.{Sum, Product}
use Rattle.pass.specs.Reads.{OtherWord, NoName, JoinsIn, GoesOn, Read, BadFrom, an_expr, an_atom, a_call, an_operand, a_chain, chain_so_far, arguments_so_far}
use Rattle.pass.specs.Reads.{from_expr, from_atom, from_call, from_operand, from_chain, begins, after_operand, after_operator, after_chain, after_arguments}
use Rattle.pass.specs.Reads.{NamesSoFar, ReadHead, BadHead, DeclarationsSoFar, after_declarations}

-- Limits that are kept, and limits that are not.
pub room : (n p : ℕ) (v : Verdict Recipe) → n ≤ 2000 → unless (cond (leb n 2000) 0 14) p v ≡ v
room n p v h = rw (le-leb n 2000 h) refl

pub full : (n p : ℕ) (v : Verdict Recipe) → 2000 ≤ n → unless (cond (leb (n + 1) 2000) 0 14) p v ≡ wrong 14 p
full n p v h = rw (lt-leb (n + 1) 2000 (omega arith)) refl

pub deep : (d n p : ℕ) (v : Verdict Recipe) → d ≤ 32 → n ≤ 2000 → unless (cond (leb d 32) (cond (leb n 2000) 0 14) 6) p v ≡ v
deep d n p v g h = rw (le-leb d 32 g, le-leb n 2000 h) refl

pub let_deep : (d n p : ℕ) (v : Verdict Recipe) → d < 32 → n ≤ 2000 → unless (cond (leb d 31) (cond (leb n 2000) 0 14) 6) p v ≡ v
let_deep d n p v g h = rw (le-leb d 31 (omega arith), le-leb n 2000 h) refl

-- A kind that is known, and what it says of the tokens.
pub known_token : (text : List ℕ) {k k' : Kind} (p e : ℕ) {ts us : List Token} → k ≡ k' → ts ≡ token_of text k p e ∷ us → ts ≡ token_of text k' p e ∷ us
known_token text p e {us = us} q d = d ∙ ap (λ j. token_of text j p e ∷ us) q

pub known_ahead : (text : List ℕ) {k k' : Kind} (p e : ℕ) → k ≡ k' → then_from text k p e ≡ then_from text k' p e
known_ahead text p e q = ap (λ j. then_from text j p e) q

-- Words are told apart by their numbers.
abbrev word_at : ℕ → Word
word_at n = get_or (Let ∷ In ∷ Ifp ∷ Then ∷ Else ∷ Weigh ∷ Open ∷ Close ∷ Comma ∷ Equals ∷ []) n Let

word_back : (w : Word) → word_at (code w) ≡ w
word_back Let = refl
word_back In = refl
word_back Ifp = refl
word_back Then = refl
word_back Else = refl
word_back Weigh = refl
word_back Open = refl
word_back Close = refl
word_back Comma = refl
word_back Equals = refl

other_word : (w v : Word) → (v ≡ w → ⊥) → (code w == code v) ≡ false
other_word w v h = elim (eqb_tells (code w) (code v)) [
  | inl e ↦ absurd (h (sym (word_back v) ∙ (ap word_at (sym e.1) ∙ word_back w)))
  | inr e ↦ e.0
]

-- A kind that is not asked for, and what it says of the tokens.
pub other : (text : List ℕ) (w : Word) (k : Kind) (p e : ℕ) → (k ≡ KWord w → ⊥) → OtherWord w (then_from text k p e)
other text w (KNumber n) p e h = tt
other text w KName p e h = tt
other text w (KOperator o) p e h = tt
other text w (KWord v) p e h = other_word w v (λ q. h (ap KWord q))
other text w (KBad c) p e h = tt
other text w KEnd p e h = tt

pub nameless : (text : List ℕ) (k : Kind) (p e : ℕ) → (k ≡ KName → ⊥) → NoName (then_from text k p e)
nameless text (KNumber n) p e h = tt
nameless text KName p e h = absurd (h refl)
nameless text (KOperator o) p e h = tt
nameless text (KWord v) p e h = tt
nameless text (KBad c) p e h = tt
nameless text KEnd p e h = tt

module _ (len : ℕ) where
  -- another number for the same count
  pub recount : (q : State) (ts : List Token) {n m : ℕ} → n ≡ m → reading len q m ts ≡ reading len q n ts
  recount q ts e = ap (λ c. reading len q c ts) (sym e)

  -- arguments
  unfoldable pub arguments_first : {d n m : ℕ} {ts us : List Token} → Read an_expr len d n ts m us → Read arguments_so_far len d n ts m us
  arguments_first r = record { tree = one r.tree; goes = λ S P f k e. r.goes (argument S P f none k) e }

  pub arguments_go_on : (S P : Left) (f : Ident) (es : Arguments) (k : Context) (n p : ℕ) (ts : List Token) → depth k + 1 ≤ 32 → n ≤ 2000 →
      reading len (after_arguments S P f es k) n (TheWord p Comma ∷ ts) ≡ reading len (want (argument S P f (some es) k)) n ts
  arguments_go_on S P f (one e) k n p ts g h = deep (depth k + 1) n p _ g h
  arguments_go_on S P f (more es e) k n p ts g h = deep (depth k + 1) n p _ g h

  pub arguments_end : (S P : Left) (f : Ident) (es : Arguments) (k : Context) (n p : ℕ) (ts : List Token) → n ≤ 2000 →
      reading len (after_arguments S P f es k) n (TheWord p Close ∷ ts) ≡ reading len (after_product S (apply P (call f es)) k) n ts
  arguments_end S P f (one e) k n p ts h = room n p _ h
  arguments_end S P f (more es e) k n p ts h = room n p _ h

  pub arguments_on : {d n m p : ℕ} {ts us vs : List Token} (s : Read arguments_so_far len d n ts m us) → us ≡ TheWord p Comma ∷ vs → d ≤ 32 → m ≤ 2000 →
      (S P : Left) (f : Ident) (k : Context) → depth k + 1 ≡ d → reading len (want (argument S P f none k)) n ts ≡ reading len (want (argument S P f (some s.tree) k)) m vs
  arguments_on {m = m} {p = p} {vs = vs} s a g h S P f k e =
      s.goes S P f k e ∙ (ap (reading len (after_arguments S P f s.tree k) m) a ∙ arguments_go_on S P f s.tree k m p vs (omega arith) h)

  unfoldable pub arguments_more : {d n m m₁ m₂ p : ℕ} {ts us vs ws : List Token} → Read arguments_so_far len d n ts m us → us ≡ TheWord p Comma ∷ vs → d ≤ 32 → m ≤ 2000 → m₁ ≡ m →
      Read an_expr len d m₁ vs m₂ ws → Read arguments_so_far len d n ts m₂ ws
  arguments_more {vs = vs} s a g h c r = record {
    tree = more s.tree r.tree;
    goes = λ S P f k e. arguments_on s a g h S P f k e ∙ (recount _ vs c ∙ r.goes (argument S P f (some s.tree) k) e);
  }

  pub arguments_more_bad : {d n m m₁ p c q : ℕ} {ts us vs : List Token} → Read arguments_so_far len d n ts m us → us ≡ TheWord p Comma ∷ vs → d ≤ 32 → m ≤ 2000 → m₁ ≡ m →
      BadFrom from_expr len d m₁ vs c q → BadFrom from_call len d n ts c q
  arguments_more_bad {vs = vs} s a g h i b = record { stops = λ S P f k e. arguments_on s a g h S P f k e ∙ (recount _ vs i ∙ b.stops (argument S P f (some s.tree) k) e) }

  unfoldable pub arguments_done : {d n m m₁ p : ℕ} {ts us vs : List Token} → Read arguments_so_far len d n ts m us → us ≡ TheWord p Close ∷ vs → m ≤ 2000 → m₁ ≡ m → Read a_call len d n ts m₁ vs
  arguments_done {m = m} {p = p} {vs = vs} s a h c = record {
    tree = s.tree;
    goes = λ S P f k e. s.goes S P f k e ∙ (ap (reading len (after_arguments S P f s.tree k) m) a ∙ (arguments_end S P f s.tree k m p vs h ∙ recount _ vs c));
  }

  pub unended : (S P : Left) (f : Ident) (es : Arguments) (k : Context) (n : ℕ) (us : List Token) → OtherWord Comma us → OtherWord Close us →
      reading len (after_arguments S P f es k) n us ≡ wrong 5 (first_place len us)
  unended S P f (one e) k n [] a b = refl
  unended S P f (one e) k n (Number x ∷ us) a b = refl
  unended S P f (one e) k n (Name x ∷ us) a b = refl
  unended S P f (one e) k n (Operator p o ∷ us) a b = refl
  unended S P f (one e) k n (TheWord p v ∷ us) a b = simp (a, b)
  unended S P f (one e) k n (Bad p c ∷ us) a b = refl
  unended S P f (more es e) k n [] a b = refl
  unended S P f (more es e) k n (Number x ∷ us) a b = refl
  unended S P f (more es e) k n (Name x ∷ us) a b = refl
  unended S P f (more es e) k n (Operator p o ∷ us) a b = refl
  unended S P f (more es e) k n (TheWord p v ∷ us) a b = simp (a, b)
  unended S P f (more es e) k n (Bad p c ∷ us) a b = refl

  pub arguments_bad : {d n m : ℕ} {ts us : List Token} → Read arguments_so_far len d n ts m us → OtherWord Comma us → OtherWord Close us → BadFrom from_call len d n ts 5 (first_place len us)
  arguments_bad {m = m} {us = us} s a b = record { stops = λ S P f k e. s.goes S P f k e ∙ unended S P f s.tree k m us a b }

  -- atoms
  unfoldable pub number_read : {d n m : ℕ} {ts us : List Token} (x : Literal) → ts ≡ Number x ∷ us → m ≡ n + 1 → m ≤ 2000 → Read an_atom len d n ts m us
  number_read {n = n} {us = us} x a c h = record {
    tree = num x;
    goes = λ S P k e. ap (reading len (operand S P k) n) a ∙ (room (n + 1) x.place _ (omega arith) ∙ recount _ us c);
  }

  pub name_ends : (S P : Left) (x : Ident) (k : Context) (n : ℕ) (us : List Token) → OtherWord Open us →
      reading len (named S P x k) n us ≡ reading len (after_product S (apply P (var x)) k) n us
  name_ends S P x k n [] o = refl
  name_ends S P x k n (Number y ∷ us) o = refl
  name_ends S P x k n (Name y ∷ us) o = refl
  name_ends S P x k n (Operator p y ∷ us) o = refl
  name_ends S P x k n (TheWord p v ∷ us) o = simp o
  name_ends S P x k n (Bad p c ∷ us) o = refl

  unfoldable pub name_read : {d n m : ℕ} {ts us : List Token} (x : Ident) → ts ≡ Name x ∷ us → m ≡ n + 1 → m ≤ 2000 → OtherWord Open us → Read an_atom len d n ts m us
  name_read {n = n} {m = m} {us = us} x a c h o = record {
    tree = var x;
    goes = λ S P k e. ap (reading len (operand S P k) n) a ∙ (room (n + 1) x.place _ (omega arith) ∙ (recount _ us c ∙ name_ends S P x k m us o));
  }

  pub name_on : (n : ℕ) {m : ℕ} {ts us : List Token} (x : Ident) → ts ≡ Name x ∷ us → m ≡ n + 1 → m ≤ 2000 →
      (S P : Left) (k : Context) → reading len (operand S P k) n ts ≡ reading len (named S P x k) m us
  name_on n {us = us} x a c h S P k = ap (reading len (operand S P k) n) a ∙ (room (n + 1) x.place _ (omega arith) ∙ recount _ us c)

  pub call_on : (n : ℕ) {d m m₁ p : ℕ} {ts us vs : List Token} (f : Ident) → ts ≡ Name f ∷ us → m ≡ n + 1 → m ≤ 2000 → us ≡ TheWord p Open ∷ vs → d < 32 → m₁ ≡ m →
      (S P : Left) (k : Context) → depth k ≡ d → reading len (operand S P k) n ts ≡ reading len (want (argument S P f none k)) m₁ vs
  call_on n {m = m} {p = p} {vs = vs} f a c h b g i S P k e =
      name_on n f a c h S P k ∙ (ap (reading len (named S P f k) m) b ∙ (deep (depth k + 1) m p _ (omega arith) h ∙ recount _ vs i))

  unfoldable pub call_read : {d n m m₁ m₂ p : ℕ} {ts us vs ws : List Token} (f : Ident) → ts ≡ Name f ∷ us → m ≡ n + 1 → m ≤ 2000 → us ≡ TheWord p Open ∷ vs → d < 32 → m₁ ≡ m →
      Read a_call len (d + 1) m₁ vs m₂ ws → Read an_atom len d n ts m₂ ws
  call_read {n = n} f a c h b g i r = record { tree = call f r.tree; goes = λ S P k e. call_on n f a c h b g i S P k e ∙ r.goes S P f k (ap (λ x. x + 1) e) }

  pub weigh_on : (n : ℕ) {m p : ℕ} {ts us : List Token} → ts ≡ TheWord p Weigh ∷ us → m ≡ n + 1 → m ≤ 2000 →
      (S P : Left) (k : Context) → reading len (operand S P k) n ts ≡ reading len (weighed S P k) m us
  weigh_on n {p = p} {us = us} a c h S P k = ap (reading len (operand S P k) n) a ∙ (room (n + 1) p _ (omega arith) ∙ recount _ us c)

  unfoldable pub weigh_read : {d n m m₁ p : ℕ} {ts us vs : List Token} (x : Literal) → ts ≡ TheWord p Weigh ∷ us → m ≡ n + 1 → m ≤ 2000 → us ≡ Number x ∷ vs → m₁ ≡ m → Read an_atom len d n ts m₁ vs
  weigh_read {n = n} {m = m} {vs = vs} x a c h b i = record {
    tree = weigh x;
    goes = λ S P k e. weigh_on n a c h S P k ∙ (ap (reading len (weighed S P k) m) b ∙ (room m x.place _ h ∙ recount _ vs i));
  }

  pub bracket_on : (n : ℕ) {d m p : ℕ} {ts us : List Token} → ts ≡ TheWord p Open ∷ us → n ≤ 2000 → d < 32 → m ≡ n →
      (S P : Left) (k : Context) → depth k ≡ d → reading len (operand S P k) n ts ≡ reading len (want (bracket S P k)) m us
  bracket_on n {p = p} {us = us} a h g c S P k e = ap (reading len (operand S P k) n) a ∙ (deep (depth k + 1) n p _ (omega arith) h ∙ recount _ us c)

  unfoldable pub bracket_read : {d n m m₁ m₂ p q : ℕ} {ts us vs ws : List Token} → ts ≡ TheWord p Open ∷ us → n ≤ 2000 → d < 32 → m ≡ n →
      Read an_expr len (d + 1) m us m₁ vs → vs ≡ TheWord q Close ∷ ws → m₁ ≤ 2000 → m₂ ≡ m₁ → Read an_atom len d n ts m₂ ws
  bracket_read {n = n} {m₁ = m₁} {q = q} {ws = ws} a h g c r b i j = record {
    tree = group r.tree;
    goes = λ S P k e. bracket_on n a h g c S P k e ∙ (r.goes (bracket S P k) (ap (λ x. x + 1) e)
        ∙ (ap (reading len (after_expr r.tree (bracket S P k)) m₁) b ∙ (room m₁ q _ i ∙ recount _ ws j)));
  }

  pub unclosed : (e : Expr) (S P : Left) (k : Context) (n : ℕ) (us : List Token) → OtherWord Close us → reading len (after_expr e (bracket S P k)) n us ≡ wrong 5 (first_place len us)
  unclosed e S P k n [] o = refl
  unclosed e S P k n (Number x ∷ us) o = refl
  unclosed e S P k n (Name x ∷ us) o = refl
  unclosed e S P k n (Operator p x ∷ us) o = refl
  unclosed e S P k n (TheWord p v ∷ us) o = simp o
  unclosed e S P k n (Bad p c ∷ us) o = refl

  pub bracket_bad : {d n m m₁ p : ℕ} {ts us vs : List Token} → ts ≡ TheWord p Open ∷ us → n ≤ 2000 → d < 32 → m ≡ n →
      Read an_expr len (d + 1) m us m₁ vs → OtherWord Close vs → BadFrom from_atom len d n ts 5 (first_place len vs)
  bracket_bad {n = n} {m₁ = m₁} {vs = vs} a h g c r o = record {
    stops = λ S P k e.
        bracket_on n a h g c S P k e ∙ (r.goes (bracket S P k) (ap (λ x. x + 1) e) ∙ unclosed r.tree S P k m₁ vs o);
  }

  -- sums and products
  pub chain_on : (chain : Chain) {d n m m₁ p : ℕ} {ts us vs : List Token} {o : Op} → (s : Read (chain_so_far chain) len d n ts m us) →
      us ≡ Operator p o ∷ vs → JoinsIn chain o → m₁ ≡ m + 1 → m₁ ≤ 2000 →
      (S : Left) (k : Context) → depth k ≡ d → reading len (operand (begins chain S) nothing k) n ts ≡ reading len (after_operator chain S s.tree o k) m₁ vs
  chain_on Sum {m = m} {p = p} {vs = vs} s a by_plus c h S k e =
      s.goes S k e ∙ (ap (reading len (after_sum s.tree k) m) a ∙ (room (m + 1) p _ (omega arith) ∙ recount _ vs c))
  chain_on Sum {m = m} {p = p} {vs = vs} s a by_minus c h S k e =
      s.goes S k e ∙ (ap (reading len (after_sum s.tree k) m) a ∙ (room (m + 1) p _ (omega arith) ∙ recount _ vs c))
  chain_on Product {m = m} {p = p} {vs = vs} s a by_times c h S k e =
      s.goes S k e ∙ (ap (reading len (after_product S s.tree k) m) a ∙ (room (m + 1) p _ (omega arith) ∙ recount _ vs c))
  chain_on Product {m = m} {p = p} {vs = vs} s a by_over c h S k e =
      s.goes S k e ∙ (ap (reading len (after_product S s.tree k) m) a ∙ (room (m + 1) p _ (omega arith) ∙ recount _ vs c))

  pub first_goes : (chain : Chain) {d n m : ℕ} {ts us : List Token} (r : Read (an_operand chain) len d n ts m us) →
      (S : Left) (k : Context) → depth k ≡ d → reading len (operand (begins chain S) nothing k) n ts ≡ reading len (after_operand chain S r.tree k) m us
  first_goes Sum r S k e = r.goes nothing k e
  first_goes Product r S k e = r.goes S nothing k e

  pub next_goes : (chain : Chain) {d n m : ℕ} {ts us : List Token} (a : Expr) (o : Op) (r : Read (an_operand chain) len d n ts m us) →
      (S : Left) (k : Context) → depth k ≡ d → reading len (after_operator chain S a o k) n ts ≡ reading len (after_operand chain S (op o a r.tree) k) m us
  next_goes Sum a o r S k e = r.goes (left a o) k e
  next_goes Product a o r S k e = r.goes S (left a o) k e

  pub next_stops : (chain : Chain) {d n c p : ℕ} {ts : List Token} (a : Expr) (o : Op) → BadFrom (from_operand chain) len d n ts c p →
      (S : Left) (k : Context) → depth k ≡ d → reading len (after_operator chain S a o k) n ts ≡ wrong c p
  next_stops Sum a o r S k e = r.stops (left a o) k e
  next_stops Product a o r S k e = r.stops S (left a o) k e

  unfoldable pub chain_first : (chain : Chain) {d n m : ℕ} {ts us : List Token} → Read (an_operand chain) len d n ts m us → Read (chain_so_far chain) len d n ts m us
  chain_first chain r = record { tree = r.tree; goes = first_goes chain r }

  unfoldable pub chain_more : (chain : Chain) {d n m m₁ m₂ p : ℕ} {ts us vs ws : List Token} {o : Op} → Read (chain_so_far chain) len d n ts m us →
      us ≡ Operator p o ∷ vs → JoinsIn chain o → m₁ ≡ m + 1 → m₁ ≤ 2000 → Read (an_operand chain) len d m₁ vs m₂ ws → Read (chain_so_far chain) len d n ts m₂ ws
  chain_more chain {o = o} s a j c h r = record {
    tree = op o s.tree r.tree;
    goes = λ S k e. chain_on chain s a j c h S k e ∙ next_goes chain s.tree o r S k e;
  }

  pub chain_more_bad : (chain : Chain) {d n m m₁ p c' q : ℕ} {ts us vs : List Token} {o : Op} → Read (chain_so_far chain) len d n ts m us →
      us ≡ Operator p o ∷ vs → JoinsIn chain o → m₁ ≡ m + 1 → m₁ ≤ 2000 → BadFrom (from_operand chain) len d m₁ vs c' q → BadFrom (from_chain chain) len d n ts c' q
  chain_more_bad chain {o = o} s a j c h r = record { stops = λ S k e. chain_on chain s a j c h S k e ∙ next_stops chain s.tree o r S k e }

  pub chain_full : (chain : Chain) {d n m p : ℕ} {ts us vs : List Token} {o : Op} → Read (chain_so_far chain) len d n ts m us →
      us ≡ Operator p o ∷ vs → JoinsIn chain o → 2000 ≤ m → BadFrom (from_chain chain) len d n ts 14 p
  chain_full Sum {m = m} {p = p} s a by_plus h = record { stops = λ S k e. s.goes S k e ∙ (ap (reading len (after_sum s.tree k) m) a ∙ full m p _ h) }
  chain_full Sum {m = m} {p = p} s a by_minus h = record { stops = λ S k e. s.goes S k e ∙ (ap (reading len (after_sum s.tree k) m) a ∙ full m p _ h) }
  chain_full Product {m = m} {p = p} s a by_times h = record { stops = λ S k e. s.goes S k e ∙ (ap (reading len (after_product S s.tree k) m) a ∙ full m p _ h) }
  chain_full Product {m = m} {p = p} s a by_over h = record { stops = λ S k e. s.goes S k e ∙ (ap (reading len (after_product S s.tree k) m) a ∙ full m p _ h) }

  abbrev pub NotJoined : Chain → List Token → Type 0
  NotJoined chain us = (S : Left) (e : Expr) (k : Context) (n : ℕ) → reading len (after_operand chain S e k) n us ≡ reading len (after_chain chain S e k) n us

  pub not_joined : (chain : Chain) (text : List ℕ) (k : Kind) (p e : ℕ) → GoesOn chain k None → NotJoined chain (then_from text k p e)
  not_joined Sum text (KNumber x) p e h = λ S e k n. refl
  not_joined Sum text KName p e h = λ S e k n. refl
  not_joined Sum text (KOperator Plus) p e h = absurd (h Plus refl by_plus)
  not_joined Sum text (KOperator Minus) p e h = absurd (h Minus refl by_minus)
  not_joined Sum text (KOperator Times) p e h = λ S e k n. refl
  not_joined Sum text (KOperator Over) p e h = λ S e k n. refl
  not_joined Sum text (KWord v) p e h = λ S e k n. refl
  not_joined Sum text (KBad c) p e h = λ S e k n. refl
  not_joined Sum text KEnd p e h = λ S e k n. refl
  not_joined Product text (KNumber x) p e h = λ S e k n. refl
  not_joined Product text KName p e h = λ S e k n. refl
  not_joined Product text (KOperator Plus) p e h = λ S e k n. refl
  not_joined Product text (KOperator Minus) p e h = λ S e k n. refl
  not_joined Product text (KOperator Times) p e h = absurd (h Times refl by_times)
  not_joined Product text (KOperator Over) p e h = absurd (h Over refl by_over)
  not_joined Product text (KWord v) p e h = λ S e k n. refl
  not_joined Product text (KBad c) p e h = λ S e k n. refl
  not_joined Product text KEnd p e h = λ S e k n. refl

  unfoldable pub chain_done : (chain : Chain) {d n m : ℕ} {ts us : List Token} → Read (chain_so_far chain) len d n ts m us → NotJoined chain us → Read (a_chain chain) len d n ts m us
  chain_done chain {m = m} s o = record { tree = s.tree; goes = λ S k e. s.goes S k e ∙ o S s.tree k m }

  -- let
  pub let_over : (x : Ident) (e₁ e₂ : Expr) (k : Context) (n : ℕ) (ts : List Token) →
      reading len (after_expr e₂ (let_body x e₁ k)) n ts ≡ reading len (after_expr (let_in x e₁ e₂) k) n ts
  let_over x e₁ e₂ k n [] = refl
  let_over x e₁ e₂ k n (t ∷ ts) = refl

  pub ifp_over : (e₀ e₁ e₂ : Expr) (k : Context) (n : ℕ) (ts : List Token) →
      reading len (after_expr e₂ (if_else e₀ e₁ k)) n ts ≡ reading len (after_expr (ifp e₀ e₁ e₂) k) n ts
  ifp_over e₀ e₁ e₂ k n [] = refl
  ifp_over e₀ e₁ e₂ k n (t ∷ ts) = refl

  pub let_begins : (n : ℕ) {d m p : ℕ} {ts us : List Token} → ts ≡ TheWord p Let ∷ us → d < 32 → m ≡ n + 1 → m ≤ 2000 → (k : Context) → depth k ≡ d →
      reading len (want k) n ts ≡ reading len (let_name k) m us
  let_begins n {p = p} {us = us} a g c h k e = ap (reading len (want k) n) a ∙ (let_deep (depth k) (n + 1) p _ (omega arith) (omega arith) ∙ recount _ us c)

  pub let_valued : (n : ℕ) {d m m₁ p q : ℕ} {ts us vs ws : List Token} (x : Ident) → ts ≡ TheWord p Let ∷ us → d < 32 → m ≡ n + 1 → m ≤ 2000 → us ≡ Name x ∷ vs → vs ≡ TheWord q Equals ∷ ws → m₁ ≡ m →
      (k : Context) → depth k ≡ d → reading len (want k) n ts ≡ reading len (want (let_value x k)) m₁ ws
  let_valued n {m = m} {q = q} {ws = ws} x a g c h b b' i k e =
      let_begins n a g c h k e ∙ (ap (reading len (let_name k) m) b ∙ (ap (reading len (let_equals x k) m) b' ∙ (deep (depth k + 1) m q _ (omega arith) h ∙ recount _ ws i)))

  pub let_on : (n : ℕ) {d m m₁ m₂ m₃ p q r : ℕ} {ts us vs ws xs ys : List Token} (x : Ident) → ts ≡ TheWord p Let ∷ us → d < 32 → m ≡ n + 1 → m ≤ 2000 →
      us ≡ Name x ∷ vs → vs ≡ TheWord q Equals ∷ ws → m₁ ≡ m →
      (v : Read an_expr len (d + 1) m₁ ws m₂ xs) → xs ≡ TheWord r In ∷ ys → m₂ ≤ 2000 → m₃ ≡ m₂ →
      (k : Context) → depth k ≡ d → reading len (want k) n ts ≡ reading len (want (let_body x v.tree k)) m₃ ys
  let_on n {m₂ = m₂} {r = r} {ys = ys} x a g c h b b' i v o h' i' k e =
      let_valued n x a g c h b b' i k e ∙ (v.goes (let_value x k) (ap (λ y. y + 1) e)
      ∙ (ap (reading len (after_expr v.tree (let_value x k)) m₂) o ∙ (deep (depth k + 1) m₂ r _ (omega arith) h' ∙ recount _ ys i')))

  unfoldable pub let_read : {d n m m₁ m₂ m₃ m₄ p q r : ℕ} {ts us vs ws xs ys zs : List Token} (x : Ident) → ts ≡ TheWord p Let ∷ us → d < 32 → m ≡ n + 1 → m ≤ 2000 →
      us ≡ Name x ∷ vs → vs ≡ TheWord q Equals ∷ ws → m₁ ≡ m →
      Read an_expr len (d + 1) m₁ ws m₂ xs → xs ≡ TheWord r In ∷ ys → m₂ ≤ 2000 → m₃ ≡ m₂ → Read an_expr len (d + 1) m₃ ys m₄ zs → Read an_expr len d n ts m₄ zs
  let_read {n = n} {m₄ = m₄} {zs = zs} x a g c h b b' i v o h' i' w = record {
    tree = let_in x v.tree w.tree;
    goes = λ k e. let_on n x a g c h b b' i v o h' i' k e ∙ (w.goes (let_body x v.tree k) (ap (λ y. y + 1) e) ∙ let_over x v.tree w.tree k m₄ zs);
  }

  pub let_bad : {d n m m₁ m₂ m₃ p q r c' s : ℕ} {ts us vs ws xs ys : List Token} (x : Ident) → ts ≡ TheWord p Let ∷ us → d < 32 → m ≡ n + 1 → m ≤ 2000 →
      us ≡ Name x ∷ vs → vs ≡ TheWord q Equals ∷ ws → m₁ ≡ m →
      Read an_expr len (d + 1) m₁ ws m₂ xs → xs ≡ TheWord r In ∷ ys → m₂ ≤ 2000 → m₃ ≡ m₂ → BadFrom from_expr len (d + 1) m₃ ys c' s → BadFrom from_expr len d n ts c' s
  let_bad {n = n} x a g c h b b' i v o h' i' w = record { stops = λ k e. let_on n x a g c h b b' i v o h' i' k e ∙ w.stops (let_body x v.tree k) (ap (λ y. y + 1) e) }

  -- ifp
  pub ifp_begins : (n : ℕ) {d m p : ℕ} {ts us : List Token} → ts ≡ TheWord p Ifp ∷ us → d < 32 → m ≡ n + 1 → m ≤ 2000 → (k : Context) → depth k ≡ d →
      reading len (want k) n ts ≡ reading len (want (if_test k)) m us
  ifp_begins n {p = p} {us = us} a g c h k e = ap (reading len (want k) n) a ∙ (deep (depth k + 1) (n + 1) p _ (omega arith) (omega arith) ∙ recount _ us c)

  pub ifp_thenned : (n : ℕ) {d m m₁ m₂ p q : ℕ} {ts us vs ws : List Token} → ts ≡ TheWord p Ifp ∷ us → d < 32 → m ≡ n + 1 → m ≤ 2000 →
      (v : Read an_expr len (d + 1) m us m₁ vs) → vs ≡ TheWord q Then ∷ ws →
      m₁ ≤ 2000 → m₂ ≡ m₁ → (k : Context) → depth k ≡ d → reading len (want k) n ts ≡ reading len (want (if_then v.tree k)) m₂ ws
  ifp_thenned n {m₁ = m₁} {q = q} {ws = ws} a g c h v b h' i k e =
      ifp_begins n a g c h k e ∙ (v.goes (if_test k) (ap (λ y. y + 1) e)
      ∙ (ap (reading len (after_expr v.tree (if_test k)) m₁) b ∙ (deep (depth k + 1) m₁ q _ (omega arith) h' ∙ recount _ ws i)))

  pub ifp_first_bad : {d n m m₁ m₂ p q c' r : ℕ} {ts us vs ws : List Token} → ts ≡ TheWord p Ifp ∷ us → d < 32 → m ≡ n + 1 → m ≤ 2000 → Read an_expr len (d + 1) m us m₁ vs → vs ≡ TheWord q Then ∷ ws →
      m₁ ≤ 2000 → m₂ ≡ m₁ → BadFrom from_expr len (d + 1) m₂ ws c' r → BadFrom from_expr len d n ts c' r
  ifp_first_bad {n = n} a g c h v b h' i w = record { stops = λ k e. ifp_thenned n a g c h v b h' i k e ∙ w.stops (if_then v.tree k) (ap (λ y. y + 1) e) }

  pub no_else : (e e' : Expr) (k : Context) (n : ℕ) (us : List Token) → OtherWord Else us → reading len (after_expr e (if_then e' k)) n us ≡ wrong 5 (first_place len us)
  no_else e e' k n [] o = refl
  no_else e e' k n (Number y ∷ us) o = refl
  no_else e e' k n (Name y ∷ us) o = refl
  no_else e e' k n (Operator p y ∷ us) o = refl
  no_else e e' k n (TheWord p v ∷ us) o = simp o
  no_else e e' k n (Bad p c ∷ us) o = refl

  pub ifp_else_bad : {d n m m₁ m₂ m₃ p q : ℕ} {ts us vs ws xs : List Token} → ts ≡ TheWord p Ifp ∷ us → d < 32 → m ≡ n + 1 → m ≤ 2000 → Read an_expr len (d + 1) m us m₁ vs → vs ≡ TheWord q Then ∷ ws →
      m₁ ≤ 2000 → m₂ ≡ m₁ → Read an_expr len (d + 1) m₂ ws m₃ xs → OtherWord Else xs → BadFrom from_expr len d n ts 5 (first_place len xs)
  ifp_else_bad {n = n} {m₃ = m₃} {xs = xs} a g c h v b h' i w o = record {
    stops = λ k e.
        ifp_thenned n a g c h v b h' i k e ∙ (w.goes (if_then v.tree k) (ap (λ y. y + 1) e) ∙ no_else w.tree v.tree k m₃ xs o);
  }

  pub ifp_on : (n : ℕ) {d m m₁ m₂ m₃ m₄ p q r : ℕ} {ts us vs ws xs ys : List Token} → ts ≡ TheWord p Ifp ∷ us → d < 32 → m ≡ n + 1 → m ≤ 2000 →
      (v : Read an_expr len (d + 1) m us m₁ vs) → vs ≡ TheWord q Then ∷ ws →
      m₁ ≤ 2000 → m₂ ≡ m₁ → (w : Read an_expr len (d + 1) m₂ ws m₃ xs) → xs ≡ TheWord r Else ∷ ys → m₃ ≤ 2000 → m₄ ≡ m₃ →
      (k : Context) → depth k ≡ d → reading len (want k) n ts ≡ reading len (want (if_else v.tree w.tree k)) m₄ ys
  ifp_on n {m₃ = m₃} {r = r} {ys = ys} a g c h v b h' i w o j i' k e =
      ifp_thenned n a g c h v b h' i k e ∙ (w.goes (if_then v.tree k) (ap (λ y. y + 1) e)
      ∙ (ap (reading len (after_expr w.tree (if_then v.tree k)) m₃) o ∙ (deep (depth k + 1) m₃ r _ (omega arith) j ∙ recount _ ys i')))

  unfoldable pub ifp_read : {d n m m₁ m₂ m₃ m₄ m₅ p q r : ℕ} {ts us vs ws xs ys zs : List Token} → ts ≡ TheWord p Ifp ∷ us → d < 32 → m ≡ n + 1 → m ≤ 2000 →
      Read an_expr len (d + 1) m us m₁ vs → vs ≡ TheWord q Then ∷ ws →
      m₁ ≤ 2000 → m₂ ≡ m₁ → Read an_expr len (d + 1) m₂ ws m₃ xs → xs ≡ TheWord r Else ∷ ys → m₃ ≤ 2000 → m₄ ≡ m₃ → Read an_expr len (d + 1) m₄ ys m₅ zs → Read an_expr len d n ts m₅ zs
  ifp_read {n = n} {m₅ = m₅} {zs = zs} a g c h v b h' i w o j i' y = record {
    tree = ifp v.tree w.tree y.tree;
    goes = λ k e. ifp_on n a g c h v b h' i w o j i' k e ∙ (y.goes (if_else v.tree w.tree k) (ap (λ y. y + 1) e) ∙ ifp_over v.tree w.tree y.tree k m₅ zs);
  }

  pub ifp_bad : {d n m m₁ m₂ m₃ m₄ p q r c' s : ℕ} {ts us vs ws xs ys : List Token} → ts ≡ TheWord p Ifp ∷ us → d < 32 → m ≡ n + 1 → m ≤ 2000 →
      Read an_expr len (d + 1) m us m₁ vs → vs ≡ TheWord q Then ∷ ws →
      m₁ ≤ 2000 → m₂ ≡ m₁ → Read an_expr len (d + 1) m₂ ws m₃ xs → xs ≡ TheWord r Else ∷ ys → m₃ ≤ 2000 → m₄ ≡ m₃ → BadFrom from_expr len (d + 1) m₄ ys c' s → BadFrom from_expr len d n ts c' s
  ifp_bad {n = n} a g c h v b h' i w o j i' y = record { stops = λ k e. ifp_on n a g c h v b h' i w o j i' k e ∙ y.stops (if_else v.tree w.tree k) (ap (λ y. y + 1) e) }

  pub no_let_ifp : (ts : List Token) (n : ℕ) (k : Context) → OtherWord Let ts → OtherWord Ifp ts → reading len (want k) n ts ≡ reading len (operand nothing nothing k) n ts
  no_let_ifp [] n k a b = refl
  no_let_ifp (Number x ∷ ts) n k a b = refl
  no_let_ifp (Name x ∷ ts) n k a b = refl
  no_let_ifp (Operator p x ∷ ts) n k a b = refl
  no_let_ifp (TheWord p v ∷ ts) n k a b = simp (a, b)
  no_let_ifp (Bad p c ∷ ts) n k a b = refl

  -- heads
  pub few : (s p : ℕ) (v : Verdict Recipe) → s ≤ 8 → unless (cond (leb s 8) 0 8) p v ≡ v
  few s p v h = rw (le-leb s 8 h) refl

  pub many : (s p : ℕ) (v : Verdict Recipe) → 8 < s → unless (cond (leb s 8) 0 8) p v ≡ wrong 8 p
  many s p v h = rw (lt-leb s 8 h) refl

  unfoldable pub names_first : {n m m₁ p : ℕ} {ts us vs : List Token} (x : Ident) → ts ≡ TheWord p Open ∷ us → m ≡ n → us ≡ Name x ∷ vs → m₁ ≡ m → NamesSoFar len n ts 1 m₁ vs
  names_first {n = n} {vs = vs} x a c b i = record {
    names = one_only x;
    sized = refl;
    goes = λ D f. ap (reading len (head_open D f) n) a ∙ (ap (reading len (head_name D f none) n) b ∙ recount _ vs (i ∙ c));
  }

  pub names_on : {n m s p : ℕ} {ts us vs : List Token} (q : NamesSoFar len n ts s m us) → us ≡ TheWord p Comma ∷ vs →
      (D : Option (Several Declaration)) (f : Ident) → reading len (head_open D f) n ts ≡ reading len (head_name D f (some q.names)) m vs
  names_on {m = m} q a D f = q.goes D f ∙ ap (reading len (head_next D f q.names) m) a

  unfoldable pub names_more : {n m m₁ m₂ s p : ℕ} {ts us vs ws : List Token} (x : Ident) → NamesSoFar len n ts s m us → us ≡ TheWord p Comma ∷ vs → m₁ ≡ m → vs ≡ Name x ∷ ws → m₂ ≡ m₁ → s < 8 →
      NamesSoFar len n ts (s + 1) m₂ ws
  names_more {m = m} {ws = ws} x q a c b i h = record {
    names = and_then q.names x;
    sized = ap (λ y. y + 1) q.sized;
    goes = λ D f. names_on q a D f ∙ (ap (reading len (head_name D f (some q.names)) m) b
        ∙ (few (size q.names + 1) x.place _ (let e = q.sized in omega arith) ∙ recount _ ws (i ∙ c)));
  }

  pub head_on : {n m m₁ s p r : ℕ} {ts us vs ws : List Token} (q : NamesSoFar len n ts s m us) → us ≡ TheWord p Close ∷ vs → vs ≡ TheWord r Equals ∷ ws → m ≤ 2000 → m₁ ≡ m →
      (D : Option (Several Declaration)) (f : Ident) → reading len (head_open D f) n ts ≡ reading len (want (in_body D f q.names)) m₁ ws
  head_on {m = m} {r = r} {ws = ws} q a b h c D f =
      q.goes D f ∙ (ap (reading len (head_next D f q.names) m) a ∙ (ap (reading len (head_equals D f q.names) m) b ∙ (room m r _ h ∙ recount _ ws c)))

  unfoldable pub head_read : {n m m₁ m₂ s p r : ℕ} {ts us vs ws xs : List Token} → NamesSoFar len n ts s m us → us ≡ TheWord p Close ∷ vs → vs ≡ TheWord r Equals ∷ ws → m ≤ 2000 → m₁ ≡ m →
      Read an_expr len 0 m₁ ws m₂ xs → ReadHead len n ts m₂ xs
  head_read q a b h c e = record {
    names = q.names;
    tree = e.tree;
    goes = λ D f. head_on q a b h c D f ∙ e.goes (in_body D f q.names) refl;
  }

  -- declarations
  pub fits : (s p : ℕ) (v : Verdict Recipe) → s < 32 → unless (cond (leb s 31) 0 7) p v ≡ v
  fits s p v h = rw (le-leb s 31 (omega arith)) refl

  pub fits_not : (s p : ℕ) (v : Verdict Recipe) → 32 ≤ s → unless (cond (leb s 31) 0 7) p v ≡ wrong 7 p
  fits_not s p v h = rw (lt-leb s 31 (omega arith)) refl

  unfoldable pub declarations_first : {m₁ m₂ p : ℕ} {ts us vs ws : List Token} (f : Ident) → ts ≡ TheWord p Let ∷ us → us ≡ Name f ∷ vs → m₁ ≡ 0 →
      ReadHead len m₁ vs m₂ ws → DeclarationsSoFar len ts 1 m₂ ws
  declarations_first {vs = vs} f a b c h = record {
    declared = one_only (declare f h.names h.tree);
    sized = refl;
    goes = ap (reading len start 0) a ∙ (ap (reading len first_head 0) b ∙ (recount (head_open none f) vs c ∙ h.goes none f));
  }

  pub declarations_first_bad : {m₁ p c' z : ℕ} {ts us vs : List Token} (f : Ident) → ts ≡ TheWord p Let ∷ us → us ≡ Name f ∷ vs → m₁ ≡ 0 → BadHead len m₁ vs c' z →
      reading len start 0 ts ≡ wrong c' z
  declarations_first_bad {vs = vs} f a b c h = ap (reading len start 0) a ∙ (ap (reading len first_head 0) b ∙ (recount (head_open none f) vs c ∙ h.stops none f))

  pub declarations_go_on : (ds : Several Declaration) (f : Ident) (n : ℕ) (ts : List Token) → size ds < 32 →
      reading len (after_declarations ds) n (Name f ∷ ts) ≡ reading len (head_open (some ds) f) n ts
  declarations_go_on (one_only (declare g xs e)) f n ts h = refl
  declarations_go_on (and_then ds (declare g xs e)) f n ts h = fits (size ds + 1) f.place _ h

  pub declarations_full : (ds : Several Declaration) (f : Ident) (n : ℕ) (ts : List Token) → 32 ≤ size ds → reading len (after_declarations ds) n (Name f ∷ ts) ≡ wrong 7 f.place
  declarations_full (one_only (declare g xs e)) f n ts h = absurd (omega arith)
  declarations_full (and_then ds (declare g xs e)) f n ts h = fits_not (size ds + 1) f.place _ h

  pub declarations_end : (ds : Several Declaration) (n p : ℕ) (ts : List Token) → n ≤ 2000 → reading len (after_declarations ds) n (TheWord p In ∷ ts) ≡ reading len (want (in_main ds p)) n ts
  declarations_end (one_only (declare g xs e)) n p ts h = room n p _ h
  declarations_end (and_then ds (declare g xs e)) n p ts h = room n p _ h

  pub declarations_too_many : {m s : ℕ} {ts us vs : List Token} (f : Ident) → DeclarationsSoFar len ts s m us → us ≡ Name f ∷ vs → 32 ≤ s → reading len start 0 ts ≡ wrong 7 f.place
  declarations_too_many {m = m} {vs = vs} f d a h =
      d.goes ∙ (ap (reading len (after_declarations d.declared) m) a ∙ declarations_full d.declared f m vs (let e = d.sized in omega arith))

  pub declarations_on : {m m₁ s : ℕ} {ts us vs : List Token} (f : Ident) → (d : DeclarationsSoFar len ts s m us) → us ≡ Name f ∷ vs → s < 32 → m₁ ≡ m →
      reading len start 0 ts ≡ reading len (head_open (some d.declared) f) m₁ vs
  declarations_on {m = m} {vs = vs} f d a h c =
      d.goes ∙ (ap (reading len (after_declarations d.declared) m) a ∙ (declarations_go_on d.declared f m vs (let e = d.sized in omega arith) ∙ recount _ vs c))

  unfoldable pub declarations_more : {m m₁ m₂ s : ℕ} {ts us vs ws : List Token} (f : Ident) → DeclarationsSoFar len ts s m us → us ≡ Name f ∷ vs → s < 32 → m₁ ≡ m → ReadHead len m₁ vs m₂ ws →
      DeclarationsSoFar len ts (s + 1) m₂ ws
  declarations_more f d a h c r = record {
    declared = and_then d.declared (declare f r.names r.tree);
    sized = ap (λ y. y + 1) d.sized;
    goes = declarations_on f d a h c ∙ r.goes (some d.declared) f;
  }

  pub declarations_more_bad : {m m₁ s c' z : ℕ} {ts us vs : List Token} (f : Ident) → DeclarationsSoFar len ts s m us → us ≡ Name f ∷ vs → s < 32 → m₁ ≡ m → BadHead len m₁ vs c' z →
      reading len start 0 ts ≡ wrong c' z
  declarations_more_bad f d a h c r = declarations_on f d a h c ∙ r.stops (some d.declared) f

  pub unfollowed : (ds : Several Declaration) (n : ℕ) (us : List Token) → NoName us → OtherWord In us → reading len (after_declarations ds) n us ≡ wrong 5 (first_place len us)
  unfollowed (one_only (declare g xs e)) n [] a o = refl
  unfollowed (one_only (declare g xs e)) n (Number x ∷ us) a o = refl
  unfollowed (one_only (declare g xs e)) n (Name x ∷ us) a o = absurd a
  unfollowed (one_only (declare g xs e)) n (Operator p x ∷ us) a o = refl
  unfollowed (one_only (declare g xs e)) n (TheWord p v ∷ us) a o = simp o
  unfollowed (one_only (declare g xs e)) n (Bad p c ∷ us) a o = refl
  unfollowed (and_then ds (declare g xs e)) n [] a o = refl
  unfollowed (and_then ds (declare g xs e)) n (Number x ∷ us) a o = refl
  unfollowed (and_then ds (declare g xs e)) n (Name x ∷ us) a o = absurd a
  unfollowed (and_then ds (declare g xs e)) n (Operator p x ∷ us) a o = refl
  unfollowed (and_then ds (declare g xs e)) n (TheWord p v ∷ us) a o = simp o
  unfollowed (and_then ds (declare g xs e)) n (Bad p c ∷ us) a o = refl

  pub declarations_bad : {m s : ℕ} {ts us : List Token} → DeclarationsSoFar len ts s m us → NoName us → OtherWord In us → reading len start 0 ts ≡ wrong 5 (first_place len us)
  declarations_bad {m = m} {us = us} d a o = d.goes ∙ unfollowed d.declared m us a o

  pub main_on : {m m₁ s p : ℕ} {ts us vs : List Token} → (d : DeclarationsSoFar len ts s m us) → us ≡ TheWord p In ∷ vs → m ≤ 2000 → m₁ ≡ m →
      reading len start 0 ts ≡ reading len (want (in_main d.declared p)) m₁ vs
  main_on {m = m} {p = p} {vs = vs} d a h c =
      d.goes ∙ (ap (reading len (after_declarations d.declared) m) a ∙ (declarations_end d.declared m p vs h ∙ recount _ vs c))

  pub main_bad : {m m₁ s p c' z : ℕ} {ts us vs : List Token} → DeclarationsSoFar len ts s m us → us ≡ TheWord p In ∷ vs → m ≤ 2000 → m₁ ≡ m → BadFrom from_expr len 0 m₁ vs c' z →
      reading len start 0 ts ≡ wrong c' z
  main_bad {p = p} d a h c e = main_on d a h c ∙ e.stops (in_main d.declared p) refl

  unfoldable pub main_read : {m m₁ m₂ s p : ℕ} {ts us vs ws : List Token} → DeclarationsSoFar len ts s m us → us ≡ TheWord p In ∷ vs → m ≤ 2000 → m₁ ≡ m → Read an_expr len 0 m₁ vs m₂ ws → ws ≡ [] →
      (t : Recipe) × (reading len start 0 ts ≡ fine t)
  main_read {m₂ = m₂} {p = p} d a h c e z =
      (recipe d.declared p e.tree, main_on d a h c ∙ (e.goes (in_main d.declared p) refl ∙ ap (reading len (after_expr e.tree (in_main d.declared p)) m₂) z))

  pub no_first : (us : List Token) → NoName us → reading len first_head 0 us ≡ wrong 5 (first_place len us)
  no_first [] o = refl
  no_first (Number x ∷ us) o = refl
  no_first (Name x ∷ us) o = absurd o
  no_first (Operator p x ∷ us) o = refl
  no_first (TheWord p v ∷ us) o = refl
  no_first (Bad p c ∷ us) o = refl
