-- The functions found, as a table.
use Rattle.std.proofs.Common.{◌≡◌, ℕ, ◌+◌, ◌<◌, true, false, cond, leb, List, [], ◌∷◌, ◌++◌, length, Some, None, Option, sym, refl, ap, ◌∙◌, subst, arith}
use Rattle.std.proofs.lemmas.List.{length_push, map-append}
use Rattle.recipe.specs.declared.cause.Refusal.{Refusal}
use Rattle.recipe.specs.declared.cause.Cause.TheVariants.{Frame}
use Rattle.recipe.specs.Causes.{cause_number}
use Rattle.recipe.specs.Tokens.{Ident, Name, fine, wrong}
use Rattle.recipe.specs.Grammar.{Expr, Several, Declaration, declare}
use Rattle.recipe.specs.Names.{Signature, all, earliest, signatures}
use Rattle.recipe.specs.Frames.{need, frames}
use Rattle.recipe.specs.Image.{Bound, past, past_all, entries}
use Rattle.pass.specs.declared.output.Output.{Output}
use Rattle.pass.specs.declared.cursor.Spot.{Spot}
use Rattle.pass.specs.declared.names.Function.{Function}
use Rattle.pass.specs.declared.cursor.Counted.{Counted}
use Rattle.pass.specs.declared.passes.Heads.{Heads}
use Rattle.pass.specs.Known.{ident, signed, entered, spelled}
use Rattle.pass.specs.Outputs.{faulted, again, over_with, over_all}
use Rattle.pass.specs.Reads.{Fit, Past, Headed, DeclarationsOn, With, PastName, frame_verdict}
use Rattle.pass.proofs.Makes.{at_of, peak_of, fault_of}

pub past_all-++ : (i : ℕ) (ds es : List Declaration) → past_all i (ds ++ es) ≡ past_all (past_all i ds) es
past_all-++ i [] es = refl
past_all-++ i (declare f xs e ∷ ds) es = past_all-++ (past (i + 1) e + 1) ds es

pub entries-++ : (i : ℕ) (ds es : List Declaration) → entries i (ds ++ es) ≡ entries i ds ++ entries (past_all i ds) es
entries-++ i [] es = refl
entries-++ i (declare f xs e ∷ ds) es = ap (λ bs. record { name = f.name; to = i + 1 } ∷ bs) (entries-++ (past (i + 1) e + 1) ds es)

pub signatures-++ : (ds es : List Declaration) → signatures (ds ++ es) ≡ signatures ds ++ signatures es
signatures-++ [] es = refl
signatures-++ (declare f xs e ∷ ds) es = ap (λ ss. record { name = f.name; arity = length (all xs) } ∷ ss) (signatures-++ ds es)

-- one function more
pub signs_more : {text : List ℕ} {h h' : Heads} {d : Counted} (xs : Several Ident) (e : Expr) (ds : List Declaration) → With text h d h' → d.count ≡ length (all xs) →
    signed h.functions.items ≡ signatures ds → signed h'.functions.items ≡ signatures (ds ++ (declare (ident text h.next.look) xs e ∷ []))
signs_more {text = text} {h = h} xs e ds w c s =
    ap signed w.listed ∙ (map-append (λ f. record { name = f.name.now; arity = f.arity }) h.functions.items (w.function ∷ [])
    ∙ (ap (λ ss. ss ++ signed (w.function ∷ [])) s ∙ (ap (λ (f : Signature). signatures ds ++ (f ∷ [])) (cc (w.named, w.takes, c))
    ∙ sym (signatures-++ ds (declare (ident text h.next.look) xs e ∷ [])))))

pub enters_more : {text : List ℕ} {h h' : Heads} {d : Counted} (base : ℕ) (xs : Several Ident) (e : Expr) (ds : List Declaration) → With text h d h' →
    h.next.out.at ≡ past_all base ds → entered h.functions.items ≡ entries base ds → entered h'.functions.items ≡ entries base (ds ++ (declare (ident text h.next.look) xs e ∷ []))
enters_more {text = text} {h = h} base xs e ds w c s =
    ap entered w.listed ∙ (map-append (λ f. record { name = f.name.now; to = f.target }) h.functions.items (w.function ∷ [])
    ∙ (ap (λ bs. bs ++ entered (w.function ∷ [])) s ∙ (ap (λ (b : Bound). entries base ds ++ (b ∷ [])) (cc (w.named, w.begins, ap (λ k. k + 1) c))
    ∙ sym (entries-++ base ds (declare (ident text h.next.look) xs e ∷ [])))))

-- frames
pub over_all-++ : (o : Option ℕ) (ds es : List Declaration) → over_all o (ds ++ es) ≡ over_all (over_all o ds) es
over_all-++ o [] es = refl
over_all-++ o (declare f xs e ∷ ds) es = over_all-++ (over_with o (length (all xs) + need e) f.place) ds es

over_stays : (q : ℕ) (ds : List Declaration) → over_all (Some q) ds ≡ Some q
over_stays q [] = refl
over_stays q (declare f xs e ∷ ds) = over_stays q ds

pub frames_over : (ds : List Declaration) (p : ℕ) (e : Expr) → frame_verdict (over_with (over_all None ds) (need e) p) ≡ frames ds p e
frames_over [] p e =
    elim (leb (need e) 32) as (λ t. frame_verdict (cond t None (Some p)) ≡ cond t (fine tt) (wrong (cause_number Frame) p)) [ true ↦ refl | false ↦ refl ]
frames_over (declare f xs b ∷ ds) p e =
    elim (leb (length (all xs) + need b) 32)
    as (λ t. frame_verdict (over_with (over_all (cond t None (Some f.place)) ds) (need e) p) ≡ cond t (frames ds p e) (wrong (cause_number Frame) f.place))
    [ true ↦ frames_over ds p e | false ↦ ap (λ (o : Option ℕ). frame_verdict (over_with o (need e) p)) (over_stays f.place ds) ]

-- past the name of a function
pub past_name : (text : List ℕ) (h : Heads) {after : Spot} {o : Output} → length h.functions.items < 32 → Past text h.next (Name (ident text h.next.look)) after → after.count ≡ h.next.count →
    o ≡ faulted (record { at = after.out.at; peak = 0; fault = after.out.fault }) (again (spelled (entered h.functions.items)) (ident text h.next.look)) →
    PastName text h (record { look = after.look; count = after.count; out = o })
past_name text h l p c u = record {
  few = l;
  token = p.token;
  same = c;
  index = at_of u ∙ at_of p.out;
  peak = peak_of u;
  fault = fault_of u ∙ ap (λ (y : Option Refusal). earliest y (again (spelled (entered h.functions.items)) (ident text h.next.look))) (fault_of p.out);
}

pub added_on : (text : List ℕ) (functions : List Function) (h : Heads) {h' : Heads} {s : Spot} {d : Counted} {m m' : List ℕ} →
    DeclarationsOn text h → PastName text h s → Headed text functions s m d m' → With text h d h' → DeclarationsOn text h'
added_on text functions h j n e w =
    let more = ap length w.listed ∙ length_push h.functions.items w.function in
    record {
      few = omega (arith, n.few, more);
      fit = subst (Fit text) (sym w.next) e.fit;
      slow = omega (arith, j.slow, n.same, n.index, e.slow, more, ap (λ (s : Spot). s.out.at) w.next, ap (λ (s : Spot). s.count) w.next);
    }
