-- Recipe texts, and what becomes of each.
use Rattle.std.specs.Prelude.{◌≡◌, ℕ, zero, suc, List, [], ◌∷◌, ◌++◌, codes}
use Rattle.recipe.specs.Causes.{cause_number, Cause, TextTooLong, NoRoom, UnknownByte, NumberTooLarge, NameTooLong}
use Rattle.recipe.specs.Causes.{Grammar, Nesting, Functions, Parameters, Constructs}
use Rattle.recipe.specs.Causes.{DeclaredTwice, UnknownName, ArgumentCount, Channel, Frame}
use Rattle.recipe.specs.Tokens.{Number, Name, Operator, Over, tokens}
use Rattle.recipe.specs.Compiled.{Answer, accepted, refused, compiled, compile_answer}

abbrev refused_for : Cause → ℕ → Answer
refused_for cause place = refused (cause_number cause) place

-- `let f(x) = x in `, which takes 16 bytes, and a main expression
abbrev recipe_of : List ℕ → List ℕ
recipe_of main = codes "let f(x) = x in " ++ main

-- the words of that recipe's function
abbrev then_f : List ℕ
then_f = 0xA0000001 ∷ 0x10000000 ∷ 0x70000000 ∷ []

-- so many ones, joined as 1+(1+(1))
abbrev ones : ℕ → List ℕ
ones zero = []
ones (suc zero) = codes "1"
ones (suc (suc n)) = codes "1+(" ++ (ones (suc n) ++ codes ")")

-- so many times the same, and then something else
abbrev times : ℕ → List ℕ → List ℕ → List ℕ
times zero part after = after
times (suc n) part after = part ++ times n part after

-- so many functions of the same name, each of 7 bytes
abbrev functions : ℕ → List ℕ
functions n = codes "let " ++ times n (codes "f(x)=1 ") (codes "in 1")

pub record Worked : Type 0 where
  -- tokens: runs are as long as they can be
  pub three_tokens : tokens (codes "7div 2") ≡
      Number (record { place = 0; value = 7 }) ∷ Operator 1 Over ∷ Number (record { place = 5; value = 2 }) ∷ []
  pub two_tokens : tokens (codes "7div2") ≡
      Number (record { place = 0; value = 7 }) ∷ Name (record { place = 1; name = codes "div2" }) ∷ []
  pub one_name : tokens (codes "weigh3") ≡ Name (record { place = 0; name = codes "weigh3" }) ∷ []
  -- images
  pub nine_words : compiled (codes "let f(x) = x + 1 in f(2)") ≡ accepted
      (0x90000009 ∷ 0x00000002 ∷ 0x60010005 ∷ 0x70000000 ∷ 0xA0000001 ∷ 0x10000000 ∷ 0x00000001 ∷ 0x20000000 ∷ 0x70000000 ∷ [])
  pub calls_itself : compiled (codes "let f(x) = f(x) in f(0)") ≡ accepted
      (0x90000008 ∷ 0x00000000 ∷ 0x60010005 ∷ 0x70000000 ∷ 0xA0000001 ∷ 0x10000000 ∷ 0x60010005 ∷ 0x70000000 ∷ [])
  pub never_called : compiled (codes "let f(x) = f(x) in 0") ≡ accepted
      (0x90000007 ∷ 0x00000000 ∷ 0x70000000 ∷ 0xA0000001 ∷ 0x10000000 ∷ 0x60010004 ∷ 0x70000000 ∷ [])
  pub argument_first : compiled (codes "let f(x) = 1 in f(1 div 0)") ≡ accepted
      (0x90000009 ∷ 0x00000001 ∷ 0x00000000 ∷ 0x20000003 ∷ 0x60010007 ∷ 0x70000000 ∷ 0xA0000001 ∷ 0x00000001 ∷ 0x70000000 ∷ [])
  pub bracket_first : compiled (recipe_of (codes "(0 - 7) div 2")) ≡ accepted
      (0x9000000A ∷ 0x00000000 ∷ 0x00000007 ∷ 0x20000001 ∷ 0x00000002 ∷ 0x20000003 ∷ 0x70000000 ∷ then_f)
  pub product : compiled (recipe_of (codes "46341 * 46341")) ≡ accepted
      (0x90000008 ∷ 0x0000B505 ∷ 0x0000B505 ∷ 0x20000002 ∷ 0x70000000 ∷ then_f)
  pub to_the_left : compiled (recipe_of (codes "7 - 2 - 1")) ≡ accepted
      (0x9000000A ∷ 0x00000007 ∷ 0x00000002 ∷ 0x20000001 ∷ 0x00000001 ∷ 0x20000001 ∷ 0x70000000 ∷ then_f)
  pub branches : compiled (recipe_of (codes "ifp 0 then 1 else 2")) ≡ accepted
      (0x9000000A ∷ 0x00000000 ∷ 0x40000005 ∷ 0x00000001 ∷ 0x50000006 ∷ 0x00000002 ∷ 0x70000000 ∷ then_f)
  -- the slot of a let counts the value that is held beside it
  pub let_slot : compiled (recipe_of (codes "2 + (let x = 3 in x)")) ≡ accepted
      (0x9000000A ∷ 0x00000002 ∷ 0x00000003 ∷ 0x10000001 ∷ 0x30000000 ∷ 0x20000000 ∷ 0x70000000 ∷ then_f)
  pub weighs : compiled (recipe_of (codes "weigh 3")) ≡ accepted (0x90000006 ∷ 0x80000003 ∷ 0x70000000 ∷ then_f)
  -- all functions know each other, and the second begins at the word 8
  pub two_functions : compiled (codes "let f(x) = g(x) g(y) = y div 2 in f(1)") ≡ accepted
      (0x9000000D ∷ 0x00000001 ∷ 0x60010005 ∷ 0x70000000 ∷
      0xA0000001 ∷ 0x10000000 ∷ 0x60010009 ∷ 0x70000000 ∷
      0xA0000001 ∷ 0x10000000 ∷ 0x00000002 ∷ 0x20000003 ∷ 0x70000000 ∷ [])
  -- a function and a variable may share a name; an inner name hides an outer one
  pub shared_name : compiled (codes "let f(f) = let f = f in f in 0") ≡ accepted
      (0x90000008 ∷ 0x00000000 ∷ 0x70000000 ∷ 0xA0000001 ∷ 0x10000000 ∷ 0x10000001 ∷ 0x30000000 ∷ 0x70000000 ∷ [])
  -- before the text is read: its length comes first
  pub long_text : compile_answer (times 60001 (codes " ") []) 0 0 ≡ refused_for TextTooLong 60000
  pub longest_text : compile_answer (times 60000 (codes " ") []) 0 0 ≡ refused_for NoRoom 0
  pub short_image : compile_answer [] 4095 2000 ≡ refused_for NoRoom 0
  pub short_table : compile_answer [] 4096 1999 ≡ refused_for NoRoom 0
  -- tokens that are none, before any look at the grammar
  pub unknown_byte : compiled (codes "let let $") ≡ refused_for UnknownByte 8
  pub largest_number : compiled (recipe_of (codes "00000000000268435455")) ≡ accepted (0x90000006 ∷ 0x0FFFFFFF ∷ 0x70000000 ∷ then_f)
  pub number_over : compiled (recipe_of (codes "00268435456")) ≡ refused_for NumberTooLarge 16
  pub longest_name : compiled (recipe_of (codes "abcdefghijklmnop")) ≡ refused_for UnknownName 16
  pub name_over : compiled (recipe_of (codes "abcdefghijklmnopq")) ≡ refused_for NameTooLong 16
  -- the grammar
  pub empty : compiled [] ≡ refused_for Grammar 0
  pub blanks_count : compiled (codes "let f(x) = x in 1 +  ") ≡ refused_for Grammar 21
  pub no_parameter : compiled (codes "let f() = 1 in 1") ≡ refused_for Grammar 6
  pub no_operator : compiled (recipe_of (codes "7div2")) ≡ refused_for Grammar 17
  pub let_as_operand : compiled (recipe_of (codes "1 + let x = 1 in x")) ≡ refused_for Grammar 20
  -- limits
  pub ones_32 : compiled (recipe_of (ones 32)) ≡ accepted
      (0x90000044 ∷ times 32 (0x00000001 ∷ []) (times 31 (0x20000000 ∷ []) (0x70000000 ∷ then_f)))
  pub ones_33 : compiled (recipe_of (ones 33)) ≡ refused_for Frame 13
  pub ones_34 : compiled (recipe_of (ones 34)) ≡ refused_for Nesting 114
  pub functions_32 : compiled (functions 32) ≡ refused_for DeclaredTwice 11
  pub functions_33 : compiled (functions 33) ≡ refused_for Functions 228
  pub parameters_8 : compiled (codes "let f(a,b,c,d,e,f,g,h) = h in 0") ≡ accepted
      (0x90000006 ∷ 0x00000000 ∷ 0x70000000 ∷ 0xA0000008 ∷ 0x10000007 ∷ 0x70000000 ∷ [])
  pub parameters_9 : compiled (codes "let f(a,b,c,d,e,f,g,h,i) = h in 0") ≡ refused_for Parameters 22
  pub nine_arguments : compiled (recipe_of (codes "f(1,2,3,4,5,6,7,8,9)")) ≡ refused_for ArgumentCount 16
  -- the x of the function is a construct too
  pub constructs_2000 : compiled (recipe_of (codes "1" ++ times 999 (codes "+1") [])) ≡ accepted
      (0x900007D4 ∷ 0x00000001 ∷ times 999 (0x00000001 ∷ 0x20000000 ∷ []) (0x70000000 ∷ then_f))
  pub constructs_2001 : compiled (recipe_of (codes "1" ++ times 1000 (codes "+1") [])) ≡ refused_for Constructs 2015
  -- names
  pub function_twice : compiled (codes "let f(x) = x f(y) = y in 1") ≡ refused_for DeclaredTwice 13
  pub parameter_twice : compiled (codes "let f(x,x) = x in 1") ≡ refused_for DeclaredTwice 8
  pub unknown_variable : compiled (codes "let f(x) = y in 1") ≡ refused_for UnknownName 11
  pub unknown_function : compiled (recipe_of (codes "x(1)")) ≡ refused_for UnknownName 16
  -- past a let, the names in force are those before it
  pub out_of_let : compiled (recipe_of (codes "(let x = 1 in x) + x")) ≡ refused_for UnknownName 35
  -- the first of two functions alike counts, and its call stands before the second
  pub first_counts : compiled (codes "let f(x) = f(1,2) f(a,b) = 1 in 1") ≡ refused_for ArgumentCount 11
  pub channel_0 : compiled (recipe_of (codes "weigh 0")) ≡ refused_for Channel 22
  pub channel_65 : compiled (recipe_of (codes "weigh 65")) ≡ refused_for Channel 22
  -- frames: a function that is never called is measured too, and comes before the main expression
  pub frame_of_function : compiled (codes "let f(x) = " ++ (ones 32 ++ (codes " in " ++ ones 33))) ≡ refused_for Frame 4
