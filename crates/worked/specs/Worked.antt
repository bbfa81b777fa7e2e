-- Recipe texts, and what each means, in the three arithmetics and with nothing held.
use Rattle.std.specs.Prelude.{◌≡◌, ℕ, true, List, [], ◌++◌, ℤ, pos, negsuc, Some, None, Err, codes, Option}
use Rattle.std.specs.Float.{fin}
use Rattle.reading.specs.Answers.{Reading}
use Rattle.reading.specs.declared.fault.ReadingFault.TheVariants.{NotFitted}
use Rattle.recipe.specs.Causes.{Verdict, fine, wrong}
use Rattle.machine.specs.Faults.{fault_number, layer_of, channel_of}
use Rattle.machine.specs.declared.fault.Layer.{Layer}
use Rattle.machine.specs.declared.fault.Layer.TheVariants.{Arithmetic, Reading as OfReading, Engine}
use Rattle.meaning.specs.Meaning.{Outcome, gives, faults}
use Rattle.meaning.specs.Text.{text_meaning}
use Rattle.gram.specs.OfGram as gram
use Rattle.gram.specs.declared.Gram.{Gram}
use Rattle.old.specs.OfOld as old
use Rattle.old.specs.declared.Old.{Old}
use Rattle.fine.specs.OfFine as the_fine
use Rattle.fine.specs.declared.Fine.{Fine}

-- A value and its steps; a fault's number, its layer, its word, its channel and the steps; or a refusal's number and place.
pub data Told (V : Type 0) : Type 0 where
  worth : V → ℕ → Told V
  fault : ℕ → Layer → ℕ → Option ℕ → ℕ → Told V
  refused : ℕ → ℕ → Told V

abbrev pub told : {V : Type 0} → Verdict (Outcome V) → Told V
told (fine (gives v n)) = worth v n
told (fine (faults f n)) = fault (fault_number f.fault) (layer_of f.fault) f.index (channel_of f.fault) n
told (wrong cause place) = refused cause place

-- no channel is fitted
abbrev pub nothing_held : ℕ → Reading
nothing_held channel = Err NotFitted

abbrev pub in_gram : List ℕ → Told Gram
in_gram text = told (text_meaning gram.gram_rules nothing_held text)

abbrev pub in_old : List ℕ → Told Old
in_old text = told (text_meaning old.old_rules nothing_held text)

abbrev pub in_fine : List ℕ → Told Fine
in_fine text = told (text_meaning the_fine.fine_rules nothing_held text)

-- a whole number, the same in all three
abbrev pub Worth : List ℕ → ℤ → ℕ → Type 0
Worth text z n =
    (in_gram text ≡ worth ((gram.gram_rules).whole z) n) × (in_old text ≡ worth ((old.old_rules).whole z) n) × (in_fine text ≡ worth ((the_fine.fine_rules).whole z) n)

-- a fault, the same in all three
abbrev pub Fault : List ℕ → ℕ → Layer → ℕ → Option ℕ → ℕ → Type 0
Fault text cause layer word channel n =
    (in_gram text ≡ fault cause layer word channel n) × (in_old text ≡ fault cause layer word channel n) × (in_fine text ≡ fault cause layer word channel n)

-- a main expression after a function
abbrev recipe_of : List ℕ → List ℕ
recipe_of main = codes "let f(x) = x in " ++ main

pub record Worked : Type 0 where
  pub one_more : Worth (codes "let f(x) = x + 1 in f(2)") (pos 3) 7
  -- a call too deep, and a function that is never called
  pub calls_itself : Fault (codes "let f(x) = f(x) in f(0)") 51 Engine 6 None 258
  pub never_called : Worth (codes "let f(x) = f(x) in 0") (pos 0) 2
  -- arguments come before the call, used or not
  pub argument_first : Fault (codes "let f(x) = 1 in f(1 div 0)") 32 Arithmetic 3 None 3
  pub to_the_left : Worth (recipe_of (codes "7 - 2 - 1")) (pos 4) 6
  pub not_positive : Worth (recipe_of (codes "ifp 0 then 1 else 2")) (pos 2) 4
  pub positive : Worth (recipe_of (codes "ifp 3 then 1 else 2")) (pos 1) 5
  pub let_inside : Worth (recipe_of (codes "2 + (let x = 3 in x)")) (pos 5) 6
  -- toward zero, and with a fraction in the finer one
  pub gram_half : in_gram (recipe_of (codes "(0 - 7) div 2")) ≡ worth (gram.place (negsuc 2)) 6
  pub old_half : in_old (recipe_of (codes "(0 - 7) div 2")) ≡ worth (old.place (negsuc 2)) 6
  pub fine_half : in_fine (recipe_of (codes "(0 - 7) div 2")) ≡ worth (the_fine.place (fin true 7 (negsuc 0))) 6
  -- out of range, or round modulo 2^32
  pub gram_square : in_gram (recipe_of (codes "46341 * 46341")) ≡ fault 31 Arithmetic 3 None 3
  pub old_square : in_old (recipe_of (codes "46341 * 46341")) ≡ worth (old.place (negsuc 2147479014)) 4
  pub fine_square : in_fine (recipe_of (codes "46341 * 46341")) ≡ fault 31 Arithmetic 3 None 3
  pub nothing_fitted : Fault (recipe_of (codes "weigh 3")) 41 OfReading 1 (Some 3) 1
  -- a function that calls itself twice
  pub twice_itself : Worth (codes "let fib(n) = ifp n - 1 then fib(n - 1) + fib(n - 2) else n in fib(10)") (pos 55) 1857
  -- texts without a meaning
  pub no_channel : in_gram (recipe_of (codes "weigh 65")) ≡ refused 13 22
  pub empty : in_gram [] ≡ refused 5 0
