-- Parameters: their names, their slots, and those that stand twice.
use Rattle.std.proofs.Common.{◌≡◌, ℕ, ◌+◌, max, ◌||◌, List, [], ◌∷◌, ◌++◌, length, set, Option, sym, refl, ap, ◌∙◌, append_assoc, append-nil, add-zero, arith, length-append}
use Rattle.std.proofs.Math.Bool.{or_assoc, or_comm, or-false}
use Rattle.std.specs.Str.{bytes_eq}
use Rattle.recipe.specs.Tokens.{Ident}
use Rattle.recipe.specs.Grammar.{Expr, num, var, op, let_in, ifp, call, weigh, group, Arguments, one, more, Several, one_only, and_then}
use Rattle.recipe.specs.Names.{earliest, Signature, listed, all, among, names_of, twice, fault_unless, faults, faults_of, call_faults, arity_of, count}
use Rattle.recipe.specs.Image.{Bound, slots}
use Rattle.recipe.specs.Limits.{size}
use Rattle.recipe.specs.Image.{past, words, placed, FN, BACK}
use Rattle.recipe.specs.Frames.{need}
use Rattle.recipe.specs.declared.cause.Cause.TheVariants.{UnknownName}
use Rattle.recipe.specs.declared.cause.Refusal.{Refusal}
use Rattle.pass.specs.declared.output.Output.{Output}
use Rattle.pass.specs.declared.names.Variable.{Variable}
use Rattle.pass.specs.Known.{Env, spelled, in_force}
use Rattle.pass.specs.Outputs.{emitted, faulted, Made, MadeHead}
use Rattle.pass.specs.Reads.{ParametersMade}
use Rattle.pass.proofs.Faults.{earliest-++}
use Rattle.recipe.proofs.Outputs.{words_past, placed-++}
use Rattle.pass.proofs.Makes.{at_of, peak_of, fault_of}
use Rattle.pass.specs.Outputs.{again}

listed-++ : {A : Type 0} (l : Several A) (ys : List A) → listed l ys ≡ all l ++ ys
listed-++ (one_only a) ys = refl
listed-++ (and_then l a) ys =
    listed-++ l (a ∷ ys) ∙ (sym (append_assoc (all l) (a ∷ []) ys) ∙ ap (λ zs. zs ++ ys) (sym (listed-++ l (a ∷ []))))

pub all_more : {A : Type 0} (l : Several A) (a : A) → all (and_then l a) ≡ all l ++ (a ∷ [])
all_more l a = listed-++ l (a ∷ [])

pub all_size : {A : Type 0} (l : Several A) → length (all l) ≡ size l
all_size (one_only a) = refl
all_size (and_then l a) = ap length (all_more l a) ∙ (length-append (all l) (a ∷ []) ∙ ap (λ n. n + 1) (all_size l))

pub slots_more : (Γ : List Bound) (n : ℕ) (xs : List Ident) (x : Ident) → slots Γ n (xs ++ (x ∷ [])) ≡ record { name = x.name; to = n + length xs } ∷ slots Γ n xs
slots_more Γ n [] x = ap (λ k. record { name = x.name; to = k } ∷ Γ) (sym (add-zero n))
slots_more Γ n (y ∷ ys) x =
    slots_more (record { name = y.name; to = n } ∷ Γ) (n + 1) ys x
    ∙ ap (λ k. record { name = x.name; to = k } ∷ slots (record { name = y.name; to = n } ∷ Γ) (n + 1) ys) (omega arith)

pub twice_more : (Γ : List Bound) (n : ℕ) (xs : List Ident) (x : Ident) → twice (spelled Γ) (xs ++ (x ∷ [])) ≡ twice (spelled Γ) xs ++ again (spelled (slots Γ n xs)) x
twice_more Γ n [] x = append-nil (again (spelled Γ) x)
twice_more Γ n (y ∷ ys) x =
    ap (λ fs. again (spelled Γ) y ++ fs) (twice_more (record { name = y.name; to = n } ∷ Γ) (n + 1) ys x)
    ∙ sym (append_assoc (again (spelled Γ) y) (twice (y.name ∷ spelled Γ) ys) (again (spelled (slots (record { name = y.name; to = n } ∷ Γ) (n + 1) ys)) x))

-- the order of the names in force tells nothing of what is among them
among_slots : (Γ : List Bound) (n : ℕ) (xs : List Ident) (y : List ℕ) → among (spelled (slots Γ n xs)) y ≡ (among (names_of xs) y || among (spelled Γ) y)
among_slots Γ n [] y = refl
among_slots Γ n (x ∷ xs) y =
    among_slots (record { name = x.name; to = n } ∷ Γ) (n + 1) xs y
    ∙ (sym (or_assoc (among (names_of xs) y) (bytes_eq y x.name) (among (spelled Γ) y)) ∙ ap (λ t. t || among (spelled Γ) y) (or_comm (among (names_of xs) y) (bytes_eq y x.name)))

pub among_names : (n : ℕ) (xs : List Ident) (y : List ℕ) → among (spelled (slots [] n xs)) y ≡ among (names_of xs) y
among_names n xs y = among_slots [] n xs y ∙ or-false (among (names_of xs) y)

abbrev Alike : List (List ℕ) → List (List ℕ) → Type 0
Alike Γ Δ = (y : List ℕ) → among Γ y ≡ among Δ y

mutual
  pub faults_alike : (F : List Signature) (Γ Δ : List (List ℕ)) → Alike Γ Δ → (e : Expr) → faults F Γ e ≡ faults F Δ e
  faults_alike F Γ Δ h (num n) = refl
  faults_alike F Γ Δ h (var x) = ap (λ t. fault_unless t x.place UnknownName) (h x.name)
  faults_alike F Γ Δ h (op o a b) = ap (λ fs. fs ++ faults F Γ b) (faults_alike F Γ Δ h a) ∙ ap (λ fs. faults F Δ a ++ fs) (faults_alike F Γ Δ h b)
  faults_alike F Γ Δ h (let_in x a b) =
      ap (λ fs. fs ++ faults F (x.name ∷ Γ) b) (faults_alike F Γ Δ h a)
      ∙ ap (λ fs. faults F Δ a ++ fs) (faults_alike F (x.name ∷ Γ) (x.name ∷ Δ) (λ y. ap (λ t. bytes_eq y x.name || t) (h y)) b)
  faults_alike F Γ Δ h (ifp c a b) =
      ap (λ fs. fs ++ (faults F Γ a ++ faults F Γ b)) (faults_alike F Γ Δ h c)
      ∙ (ap (λ fs. faults F Δ c ++ (fs ++ faults F Γ b)) (faults_alike F Γ Δ h a) ∙ ap (λ fs. faults F Δ c ++ (faults F Δ a ++ fs)) (faults_alike F Γ Δ h b))
  faults_alike F Γ Δ h (call f es) = ap (λ fs. call_faults (arity_of F f.name) (count es) f.place ++ fs) (faults_all_alike F Γ Δ h es)
  faults_alike F Γ Δ h (weigh n) = refl
  faults_alike F Γ Δ h (group e) = faults_alike F Γ Δ h e

  pub faults_all_alike : (F : List Signature) (Γ Δ : List (List ℕ)) → Alike Γ Δ → (es : Arguments) → faults_of F Γ es ≡ faults_of F Δ es
  faults_all_alike F Γ Δ h (one e) = faults_alike F Γ Δ h e
  faults_all_alike F Γ Δ h (more es e) =
      ap (λ fs. fs ++ faults F Γ e) (faults_all_alike F Γ Δ h es) ∙ ap (λ fs. faults_of F Δ es ++ fs) (faults_alike F Γ Δ h e)

-- the first parameter, one more, and the body
pub parameters_first : (o o₁ o₂ : Output) (scope scope' : List Variable) (x : Ident) → scope ≡ [] → o₁ ≡ o → o₂ ≡ faulted o₁ (again (spelled (in_force scope)) x) →
    in_force scope' ≡ record { name = x.name; to = length scope } ∷ in_force scope → ParametersMade o (one_only x) scope' o₂
parameters_first o o₁ o₂ scope scope' x e a b k = record {
  known = k ∙ ap (λ (vs : List Variable). record { name = x.name; to = length vs } ∷ in_force vs) e;
  out = b ∙ (ap (λ (vs : List Variable). faulted o₁ (again (spelled (in_force vs)) x)) e ∙ ap (λ (p : Output). faulted p []) a);
}

faulted-++ : (o : Output) (fs gs : List Refusal) → faulted (faulted o fs) gs ≡ faulted o (fs ++ gs)
faulted-++ o fs gs = ap (λ (f : Option Refusal). record { at = o.at; peak = o.peak; fault = f }) (sym (earliest-++ o.fault fs gs))

pub parameters_more : (o o₁ o₂ o₃ : Output) (before scope : List Variable) (xs : Several Ident) (x : Ident) → length before ≡ size xs → ParametersMade o xs before o₁ → o₂ ≡ o₁ →
    o₃ ≡ faulted o₂ (again (spelled (in_force before)) x) → in_force scope ≡ record { name = x.name; to = length before } ∷ in_force before → ParametersMade o (and_then xs x) scope o₃
parameters_more o o₁ o₂ o₃ before scope xs x s p a b k =
    let n : length before ≡ 0 + length (all xs) = omega (arith, s, all_size xs) in
    record {
      known = k ∙ (ap (λ j. record { name = x.name; to = j } ∷ in_force before) n ∙ (ap (λ (Γ : List Bound). record { name = x.name; to = 0 + length (all xs) } ∷ Γ) p.known
          ∙ (sym (slots_more [] 0 (all xs) x) ∙ ap (slots [] 0) (sym (all_more xs x)))));
      out = b ∙ (ap (λ (q : Output). faulted q (again (spelled (in_force before)) x)) (a ∙ p.out) ∙ (ap (λ (Γ : List Bound). faulted (faulted o (twice [] (all xs))) (again (spelled Γ) x)) p.known
          ∙ (faulted-++ o (twice [] (all xs)) (again (spelled (slots [] 0 (all xs))) x) ∙ ap (faulted o) (sym (twice_more [] 0 (all xs) x) ∙ ap (twice []) (sym (all_more xs x))))));
    }

pub made_head : (v : Env) (m : List ℕ) {o o₁ o₂ o₃ o₄ o₅ : Output} {m₁ m₂ m₃ : List ℕ} {w w' : ℕ} (xs : Several Ident) (scope : List Variable) (n : ℕ) (e : Expr) →
    ParametersMade o xs scope o₁ → o₂ ≡ o₁ → v.in_scope ≡ in_force scope → n ≡ length (all xs) → o₃ ≡ emitted o₂ → m₁ ≡ set m o₂.at w → w ≡ FN n →
    Made v n o₃ m₁ e o₄ m₂ → o₅ ≡ emitted o₄ → m₃ ≡ set m₂ o₄.at w' → w' ≡ BACK → MadeHead v.signatures v.entries o m xs e o₅ m₃
made_head v m {o = o} {o₂ = o₂} {o₃ = o₃} {o₄ = o₄} {m₁ = m₁} {m₂ = m₂} xs scope n e p a g c b f fn r d h back =
    let F = v.signatures in
    let Γ = slots [] 0 (all xs) in
    let L = length (all xs) in
    let i = o.at in
    let in_scope = g ∙ p.known in
    let at₂ = at_of a ∙ at_of p.out in
    let at₃ = at_of b ∙ ap (λ j. j + 1) at₂ in
    let at₄ = r.index ∙ ap (λ j. past j e) at₃ in
    let body = words v.entries Γ L (i + 1) e in
    record {
      index = at_of d ∙ ap (λ j. j + 1) at₄;
      peak = peak_of d ∙ (r.peak ∙ (ap (λ j. max j (n + need e)) (peak_of b ∙ (peak_of a ∙ peak_of p.out)) ∙ ap (λ j. max o.peak (j + need e)) c));
      fault = fault_of d ∙ (r.fault ∙ (ap (λ (x : Option Refusal). earliest x (faults F (spelled v.in_scope) e)) (fault_of b ∙ (fault_of a ∙ fault_of p.out))
          ∙ (sym (earliest-++ o.fault (twice [] (all xs)) (faults F (spelled v.in_scope) e))
          ∙ ap (λ (fs : List Refusal). earliest o.fault (twice [] (all xs) ++ fs))
          (ap (λ (Δ : List Bound). faults F (spelled Δ) e) in_scope ∙ faults_alike F (spelled Γ) (names_of (all xs)) (among_names 0 (all xs)) e))));
      written = h ∙ (ap (set m₂ o₄.at) back ∙ (ap (λ j. set m₂ j BACK) at₄
          ∙ (ap (λ (x : List ℕ). set x (past (i + 1) e) BACK)
          (r.written ∙ (ap (λ j. placed m₁ j (words v.entries v.in_scope n j e)) at₃ ∙ (ap (λ (Δ : List Bound). placed m₁ (i + 1) (words v.entries Δ n (i + 1) e)) in_scope
          ∙ (ap (λ k. placed m₁ (i + 1) (words v.entries Γ k (i + 1) e)) c
          ∙ ap (λ (x : List ℕ). placed x (i + 1) body) (f ∙ (ap (set m o₂.at) (fn ∙ ap FN c) ∙ ap (λ j. set m j (FN L)) at₂))))))
          ∙ sym (placed-++ (set m i (FN L)) (i + 1) (past (i + 1) e) body (BACK ∷ []) (words_past v.entries Γ L (i + 1) e)))));
    }
