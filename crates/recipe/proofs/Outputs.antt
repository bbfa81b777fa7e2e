-- What a compiler's proof wants of its outputs: words written part by part, their number, faults found one after another, room in a frame.
use Rattle.std.proofs.Common.{◌≡◌, ℕ, ◌+◌, ◌*◌, ◌<◌, ◌≤◌, ◌≢◌, List, [], ◌∷◌, ◌++◌, length, take, drop, set, Some, sym, refl, ap, ◌∙◌, add-zero, arith}
use Rattle.recipe.specs.declared.cause.Refusal.{Refusal}
use Rattle.std.proofs.lemmas.List.{length-append, set_comm, length-set, append_assoc, take-append-drop, take_more_set, drop-set-lt}
use Rattle.recipe.specs.Grammar.{Expr, num, var, op, let_in, ifp, call, weigh, group, Arguments, one, more, Several, one_only, and_then}
use Rattle.recipe.specs.Grammar.{Declaration, declare, Recipe, recipe}
use Rattle.recipe.specs.Limits.{size}
use Rattle.recipe.specs.Within.{constructs, constructs_of, all_constructs, Within}
use Rattle.recipe.specs.Names.{listed, all, count, sooner, earliest}
use Rattle.recipe.specs.Frames.{need, needs}
use Rattle.recipe.specs.Compiled.{accepted, image_after}
use Rattle.recipe.specs.Image.{Bound, placed, words, arguments, past, pasts, slots, entries, bodies, past_all, image}

-- Words written to memory.

-- a part after a part, where the second begins at the index j
pub placed-++ : (m : List ℕ) (i j : ℕ) (us vs : List ℕ) → i + length us ≡ j → placed m i (us ++ vs) ≡ placed (placed m i us) j vs
placed-++ m i j [] vs e = ap (λ n. placed m n vs) (let f : i ≡ j = omega arith in f)
placed-++ m i j (u ∷ us) vs e = placed-++ (set m i u) (i + 1) j us vs (omega arith)

-- a word below others may as well be written after them
pub set_placed : (m : List ℕ) (i j w : ℕ) (ws : List ℕ) → i < j → set (placed m j ws) i w ≡ placed (set m i w) j ws
set_placed m i j w [] h = refl
set_placed m i j w (u ∷ us) h =
    set_placed (set m j u) i (j + 1) w us (omega arith) ∙ ap (λ l. placed l (j + 1) us) (set_comm m j i u w (let n : j ≢ i = omega arith in n))

-- the first word, written late
pub placed_late : (m : List ℕ) (i w : ℕ) (ws : List ℕ) → placed m i (w ∷ ws) ≡ set (placed m (i + 1) ws) i w
placed_late m i w ws = sym (set_placed m i (i + 1) w ws (omega arith))

-- memory with room for all the words
pub placed_whole : (m : List ℕ) (i : ℕ) (ws : List ℕ) → i + length ws ≤ length m → placed m i ws ≡ take i m ++ (ws ++ drop (i + length ws) m)
placed_whole m i [] h = sym (ap (λ n. take i m ++ drop n m) (add-zero i) ∙ take-append-drop i m)
placed_whole m i (w ∷ ws) h =
    let n = i + length (w ∷ ws) in
    let e : (i + 1) + length ws ≡ n = omega arith in
    let k : length (set m i w) ≡ length m = length-set m i w in
    let g = placed_whole (set m i w) (i + 1) ws (omega arith) in
    g ∙ (ap (λ l. l ++ (ws ++ drop ((i + 1) + length ws) (set m i w))) (take_more_set m i w (omega arith))
    ∙ (append_assoc (take i m) (w ∷ []) (ws ++ drop ((i + 1) + length ws) (set m i w))
    ∙ (ap (λ j. take i m ++ (w ∷ (ws ++ drop j (set m i w)))) e
    ∙ ap (λ l. take i m ++ (w ∷ (ws ++ l))) (drop-set-lt n m i w (omega arith)))))

-- the whole of an image, from the index 0 on
pub placed_first : (m ws : List ℕ) → length ws ≤ length m → placed m 0 ws ≡ ws ++ drop (length ws) m
placed_first m ws h =
    let e : 0 + length ws ≡ length ws = omega arith in
    placed_whole m 0 ws (omega arith) ∙ ap (λ n. ws ++ drop n m) e

-- How many words there are: they reach to the index past them.
mutual
  pub words_past : (functions variables : List Bound) (held at : ℕ) (e : Expr) → at + length (words functions variables held at e) ≡ past at e
  words_past F V h i (num n) = refl
  words_past F V h i (var x) = refl
  words_past F V h i (weigh n) = refl
  words_past F V h i (op o a b) =
      let p = words_past F V h i a in let q = words_past F V (h + 1) (past i a) b in simp length-append (omega arith)
  words_past F V h i (let_in x a b) =
      let p = words_past F V h i a in
      let q = words_past F (record { name = x.name; to = h } ∷ V) (h + 1) (past i a) b in simp length-append (omega arith)
  words_past F V h i (ifp c a b) =
      let p = words_past F V h i c in
      let q = words_past F V h (past i c + 1) a in
      let r = words_past F V h (past (past i c + 1) a + 1) b in simp length-append (omega arith)
  words_past F V h i (call f es) = let p = arguments_past F V h i es in simp length-append (omega arith)
  words_past F V h i (group e) = words_past F V h i e

  pub arguments_past : (functions variables : List Bound) (held at : ℕ) (es : Arguments) →
      at + length (arguments functions variables held at es) ≡ pasts at es
  arguments_past F V h i (one e) = words_past F V h i e
  arguments_past F V h i (more es e) =
      let p = arguments_past F V h i es in let q = words_past F V (h + count es) (pasts i es) e in simp length-append (omega arith)

pub bodies_past : (functions : List Bound) (at : ℕ) (ds : List Declaration) → at + length (bodies functions at ds) ≡ past_all at ds
bodies_past F i [] = add-zero i
bodies_past F i (declare f xs e ∷ ds) =
    let p = words_past F (slots [] 0 (all xs)) (length (all xs)) (i + 1) e in
    let q = bodies_past F (past (i + 1) e + 1) ds in simp length-append (omega arith)

-- the number in HEAD
pub image_length : (ds : Several Declaration) (p : ℕ) (e : Expr) → length (image (recipe ds p e)) ≡ past_all (past 1 e + 1) (all ds)
image_length ds p e =
    let i = past 1 e + 1 in
    let F = entries i (all ds) in
    let a = words_past F [] 0 1 e in
    let b = bodies_past F i (all ds) in simp length-append (omega arith)

-- Bounds by the constructs.
mutual
  -- every expression is a construct at least
  pub constructs_more : (n : ℕ) (e : Expr) → n < constructs n e
  constructs_more n (num x) = omega arith
  constructs_more n (var x) = omega arith
  constructs_more n (weigh x) = omega arith
  constructs_more n (op o a b) = let p = constructs_more n a in let q = constructs_more (constructs n a + 1) b in omega arith
  constructs_more n (let_in x a b) = let p = constructs_more (n + 1) a in let q = constructs_more (constructs (n + 1) a) b in omega arith
  constructs_more n (ifp c a b) =
      let p = constructs_more (n + 1) c in
      let q = constructs_more (constructs (n + 1) c) a in
      let r = constructs_more (constructs (constructs (n + 1) c) a) b in omega arith
  constructs_more n (call f es) = let p = constructs_of_more (n + 1) es in let k = count_more es in omega arith
  constructs_more n (group e) = constructs_more n e

  pub constructs_of_more : (n : ℕ) (es : Arguments) → n + count es ≤ constructs_of n es
  constructs_of_more n (one e) = let p = constructs_more n e in omega arith
  constructs_of_more n (more es e) = let p = constructs_of_more n es in let q = constructs_more (constructs_of n es) e in omega arith

  pub count_more : (es : Arguments) → 1 ≤ count es
  count_more (one e) = omega arith
  count_more (more es e) = omega arith

pub constructs_of_grow : (n : ℕ) (es : Arguments) → n < constructs_of n es
constructs_of_grow n es = let p = constructs_of_more n es in let k = count_more es in omega arith

-- an expression has a word at least, and at most two to a construct
mutual
  pub past_more : (at : ℕ) (e : Expr) → at < past at e
  past_more i (num x) = omega arith
  past_more i (var x) = omega arith
  past_more i (weigh x) = omega arith
  past_more i (op o a b) = let p = past_more i a in let q = past_more (past i a) b in omega arith
  past_more i (let_in x a b) = let p = past_more i a in let q = past_more (past i a) b in omega arith
  past_more i (ifp c a b) =
      let p = past_more i c in let q = past_more (past i c + 1) a in let r = past_more (past (past i c + 1) a + 1) b in omega arith
  past_more i (call f es) = let p = pasts_more i es in omega arith
  past_more i (group e) = past_more i e

  pub pasts_more : (at : ℕ) (es : Arguments) → at < pasts at es
  pasts_more i (one e) = past_more i e
  pasts_more i (more es e) = let p = pasts_more i es in let q = past_more (pasts i es) e in omega arith

mutual
  pub past_bound : (n at : ℕ) (e : Expr) → past at e + 2 * n ≤ at + 2 * constructs n e
  past_bound n i (num x) = omega arith
  past_bound n i (var x) = omega arith
  past_bound n i (weigh x) = omega arith
  past_bound n i (op o a b) = let p = past_bound n i a in let q = past_bound (constructs n a + 1) (past i a) b in omega arith
  past_bound n i (let_in x a b) = let p = past_bound (n + 1) i a in let q = past_bound (constructs (n + 1) a) (past i a) b in omega arith
  past_bound n i (ifp c a b) =
      let p = past_bound (n + 1) i c in
      let q = past_bound (constructs (n + 1) c) (past i c + 1) a in
      let r = past_bound (constructs (constructs (n + 1) c) a) (past (past i c + 1) a + 1) b in omega arith
  past_bound n i (call f es) = let p = pasts_bound (n + 1) i es in omega arith
  past_bound n i (group e) = past_bound n i e

  pub pasts_bound : (n at : ℕ) (es : Arguments) → pasts at es + 2 * n ≤ at + 2 * constructs_of n es
  pasts_bound n i (one e) = past_bound n i e
  pasts_bound n i (more es e) = let p = pasts_bound n i es in let q = past_bound (constructs_of n es) (pasts i es) e in omega arith

-- the functions, which have two words each besides their bodies
past_some : (at : ℕ) (ds : Several Declaration) (rest : List Declaration) →
    (j : ℕ) × (past_all at (listed ds rest) ≡ past_all j rest) × (j ≤ at + 2 * all_constructs ds + 2 * size ds)
past_some i (one_only (declare f xs e)) rest = (past (i + 1) e + 1, refl, (let p = past_bound 0 (i + 1) e in omega arith))
past_some i (and_then ds (declare f xs e)) rest =
    let k = past_some i ds (declare f xs e ∷ rest) in
    let b = k.2 in
    (past (k.0 + 1) e + 1, k.1, (let p = past_bound (all_constructs ds) (k.0 + 1) e in omega arith))

pub past_all_bound : (at : ℕ) (ds : Several Declaration) → past_all at (all ds) ≤ at + 2 * all_constructs ds + 2 * size ds
past_all_bound i ds = let k = past_some i ds [] in let e = k.1 in let b = k.2 in omega arith

-- an image within the limits has room in 4,096 words
pub image_bound : (r : Recipe) → Within r → length (image r) ≤ 4096
image_bound (recipe ds p e) w =
    let l = image_length ds p e in
    let a = past_all_bound (past 1 e + 1) ds in
    let b = past_bound (all_constructs ds) 1 e in
    omega (arith, w.0, w.3)

-- so memory of 4,096 words takes it as an accepted answer says
pub image_placed : (r : Recipe) (m : List ℕ) → Within r → 4096 ≤ length m → placed m 0 (image r) ≡ image_after (accepted (image r)) m
image_placed r m w h = let b = image_bound r w in placed_first m (image r) (omega arith)

-- Room in a frame.
mutual
  pub need_least : (e : Expr) → 1 ≤ need e
  need_least (num x) = omega arith
  need_least (var x) = omega arith
  need_least (weigh x) = omega arith
  need_least (op o a b) = let p = need_least a in omega arith
  need_least (let_in x a b) = let p = need_least a in omega arith
  need_least (ifp c a b) = let p = need_least c in omega arith
  need_least (call f es) = let p = needs_least es in let k = count_more es in omega arith
  need_least (group e) = need_least e

  -- the arguments themselves need room
  pub needs_least : (es : Arguments) → count es ≤ needs es
  needs_least (one e) = need_least e
  needs_least (more es e) = let p = need_least e in omega arith

mutual
  pub need_bound : (n : ℕ) (e : Expr) → n + need e ≤ constructs n e
  need_bound n (num x) = omega arith
  need_bound n (var x) = omega arith
  need_bound n (weigh x) = omega arith
  need_bound n (op o a b) = let p = need_bound n a in let q = need_bound (constructs n a + 1) b in omega arith
  need_bound n (let_in x a b) = let p = need_bound (n + 1) a in let q = need_bound (constructs (n + 1) a) b in omega arith
  need_bound n (ifp c a b) =
      let p = need_bound (n + 1) c in
      let q = need_bound (constructs (n + 1) c) a in
      let r = need_bound (constructs (constructs (n + 1) c) a) b in omega arith
  need_bound n (call f es) = let p = needs_bound (n + 1) es in omega arith
  need_bound n (group e) = need_bound n e

  pub needs_bound : (n : ℕ) (es : Arguments) → n + needs es ≤ constructs_of n es
  needs_bound n (one e) = need_bound n e
  needs_bound n (more es e) =
      let p = needs_bound n es in
      let q = need_bound (constructs_of n es) e in
      let k = constructs_of_more n es in omega arith

-- Faults found one after another: one that is found stays, or gives way to a sooner one.
pub found_stays : (a : Refusal) (bs : List Refusal) → (l : Refusal) × (earliest (Some a) bs ≡ Some l)
found_stays a [] = (a, refl)
found_stays a (b ∷ bs) = found_stays (sooner a b) bs
