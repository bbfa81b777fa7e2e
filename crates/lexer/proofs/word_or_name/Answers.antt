use borrow.Author.Tests.{ltb-true, ltb-false}
use Rattle.std.proofs.Common.{codes, [], ◌∷◌, ap, arith}
use Rattle.std.proofs.lemmas.Slice.Eq.{text_from_reads}
use Rattle.recipe.specs.Tokens.{name_token}
use Rattle.lexer.proofs.Scans.{Unreserved, plain_name}
use Rattle.lexer.proofs.word_or_name.Goals.{in_default-via-then-name-lt2, in_default-via-else-name-lt2+then-name-lt3+in-105+in_default-1}
use Rattle.lexer.proofs.word_or_name.Goals.{in_default-via-else-name-lt2+then-name-lt3+in_default-1}
use Rattle.lexer.proofs.word_or_name.Goals.{in_default-via-else-name-lt2+else-name-lt3+then-name-lt4+in-108+in-101+in_default-1}
use Rattle.lexer.proofs.word_or_name.Goals.{in_default-via-else-name-lt2+else-name-lt3+then-name-lt4+in-108+in_default-1}
use Rattle.lexer.proofs.word_or_name.Goals.{in_default-via-else-name-lt2+else-name-lt3+then-name-lt4+in-105+in-102+in_default-1}
use Rattle.lexer.proofs.word_or_name.Goals.{in_default-via-else-name-lt2+else-name-lt3+then-name-lt4+in-105+in_default-1}
use Rattle.lexer.proofs.word_or_name.Goals.{in_default-via-else-name-lt2+else-name-lt3+then-name-lt4+in-100+in-105+in_default-1}
use Rattle.lexer.proofs.word_or_name.Goals.{in_default-via-else-name-lt2+else-name-lt3+then-name-lt4+in-100+in_default-1}
use Rattle.lexer.proofs.word_or_name.Goals.{in_default-via-else-name-lt2+else-name-lt3+then-name-lt4+in_default-1}
use Rattle.lexer.proofs.word_or_name.Goals.{in_default-via-else-name-lt2+else-name-lt3+else-name-lt4+then-name-lt5+in-116+in-104+in-101+in_default-1}
use Rattle.lexer.proofs.word_or_name.Goals.{in_default-via-else-name-lt2+else-name-lt3+else-name-lt4+then-name-lt5+in-116+in-104+in_default-1}
use Rattle.lexer.proofs.word_or_name.Goals.{in_default-via-else-name-lt2+else-name-lt3+else-name-lt4+then-name-lt5+in-116+in_default-1}
use Rattle.lexer.proofs.word_or_name.Goals.{in_default-via-else-name-lt2+else-name-lt3+else-name-lt4+then-name-lt5+in-101+in-108+in-115+in_default-1}
use Rattle.lexer.proofs.word_or_name.Goals.{in_default-via-else-name-lt2+else-name-lt3+else-name-lt4+then-name-lt5+in-101+in-108+in_default-1}
use Rattle.lexer.proofs.word_or_name.Goals.{in_default-via-else-name-lt2+else-name-lt3+else-name-lt4+then-name-lt5+in-101+in_default-1}
use Rattle.lexer.proofs.word_or_name.Goals.{in_default-via-else-name-lt2+else-name-lt3+else-name-lt4+then-name-lt5+in_default-1}
use Rattle.lexer.proofs.word_or_name.Goals.{in_default-via-else-name-lt2+else-name-lt3+else-name-lt4+else-name-lt5+then-name-lt6+in-119+in-101+in-105+in-103+in_default-1}
use Rattle.lexer.proofs.word_or_name.Goals.{in_default-via-else-name-lt2+else-name-lt3+else-name-lt4+else-name-lt5+then-name-lt6+in-119+in-101+in-105+in_default-1}
use Rattle.lexer.proofs.word_or_name.Goals.{in_default-via-else-name-lt2+else-name-lt3+else-name-lt4+else-name-lt5+then-name-lt6+in-119+in-101+in_default-1}
use Rattle.lexer.proofs.word_or_name.Goals.{in_default-via-else-name-lt2+else-name-lt3+else-name-lt4+else-name-lt5+then-name-lt6+in-119+in_default-1}
use Rattle.lexer.proofs.word_or_name.Goals.{in_default-via-else-name-lt2+else-name-lt3+else-name-lt4+else-name-lt5+then-name-lt6+in_default-1}
use Rattle.lexer.proofs.word_or_name.Goals.{in_default-via-else-name-lt2+else-name-lt3+else-name-lt4+else-name-lt5+else-name-lt6}
use Rattle.lexer.proofs.word_or_name.Goals as goal

pub returns-in-weigh : goal.returns-in-weigh
returns-in-weigh c =
    let e = text_from_reads c.args.name.now (codes "weigh") (omega arith) (omega arith, (omega arith, (omega arith, (omega arith, (omega arith, tt))))) in
    ((λ text p q b. ap (λ s. name_token p s ∷ []) e), (tt, tt))

pub returns-in_default : goal.returns-in_default
returns-in_default c =
    let u : Unreserved c.args.name.now = elim c.in_default.branch [
      | in_default-via-then-name-lt2 w ↦ grind (arith, ltb-true, ltb-false)
      | in_default-via-else-name-lt2+then-name-lt3+in-105+in_default-1 w ↦ grind (arith, ltb-true, ltb-false)
      | in_default-via-else-name-lt2+then-name-lt3+in_default-1 w ↦ grind (arith, ltb-true, ltb-false)
      | in_default-via-else-name-lt2+else-name-lt3+then-name-lt4+in-108+in-101+in_default-1 w ↦ grind (arith, ltb-true, ltb-false)
      | in_default-via-else-name-lt2+else-name-lt3+then-name-lt4+in-108+in_default-1 w ↦ grind (arith, ltb-true, ltb-false)
      | in_default-via-else-name-lt2+else-name-lt3+then-name-lt4+in-105+in-102+in_default-1 w ↦ grind (arith, ltb-true, ltb-false)
      | in_default-via-else-name-lt2+else-name-lt3+then-name-lt4+in-105+in_default-1 w ↦ grind (arith, ltb-true, ltb-false)
      | in_default-via-else-name-lt2+else-name-lt3+then-name-lt4+in-100+in-105+in_default-1 w ↦ grind (arith, ltb-true, ltb-false)
      | in_default-via-else-name-lt2+else-name-lt3+then-name-lt4+in-100+in_default-1 w ↦ grind (arith, ltb-true, ltb-false)
      | in_default-via-else-name-lt2+else-name-lt3+then-name-lt4+in_default-1 w ↦ grind (arith, ltb-true, ltb-false)
      | in_default-via-else-name-lt2+else-name-lt3+else-name-lt4+then-name-lt5+in-116+in-104+in-101+in_default-1 w ↦ grind (arith, ltb-true, ltb-false)
      | in_default-via-else-name-lt2+else-name-lt3+else-name-lt4+then-name-lt5+in-116+in-104+in_default-1 w ↦ grind (arith, ltb-true, ltb-false)
      | in_default-via-else-name-lt2+else-name-lt3+else-name-lt4+then-name-lt5+in-116+in_default-1 w ↦ grind (arith, ltb-true, ltb-false)
      | in_default-via-else-name-lt2+else-name-lt3+else-name-lt4+then-name-lt5+in-101+in-108+in-115+in_default-1 w ↦ grind (arith, ltb-true, ltb-false)
      | in_default-via-else-name-lt2+else-name-lt3+else-name-lt4+then-name-lt5+in-101+in-108+in_default-1 w ↦ grind (arith, ltb-true, ltb-false)
      | in_default-via-else-name-lt2+else-name-lt3+else-name-lt4+then-name-lt5+in-101+in_default-1 w ↦ grind (arith, ltb-true, ltb-false)
      | in_default-via-else-name-lt2+else-name-lt3+else-name-lt4+then-name-lt5+in_default-1 w ↦ grind (arith, ltb-true, ltb-false)
      | in_default-via-else-name-lt2+else-name-lt3+else-name-lt4+else-name-lt5+then-name-lt6+in-119+in-101+in-105+in-103+in_default-1 w ↦ grind (arith, ltb-true, ltb-false)
      | in_default-via-else-name-lt2+else-name-lt3+else-name-lt4+else-name-lt5+then-name-lt6+in-119+in-101+in-105+in_default-1 w ↦ grind (arith, ltb-true, ltb-false)
      | in_default-via-else-name-lt2+else-name-lt3+else-name-lt4+else-name-lt5+then-name-lt6+in-119+in-101+in_default-1 w ↦ grind (arith, ltb-true, ltb-false)
      | in_default-via-else-name-lt2+else-name-lt3+else-name-lt4+else-name-lt5+then-name-lt6+in-119+in_default-1 w ↦ grind (arith, ltb-true, ltb-false)
      | in_default-via-else-name-lt2+else-name-lt3+else-name-lt4+else-name-lt5+then-name-lt6+in_default-1 w ↦ grind (arith, ltb-true, ltb-false)
      | in_default-via-else-name-lt2+else-name-lt3+else-name-lt4+else-name-lt5+else-name-lt6 w ↦ grind (arith, ltb-true, ltb-false)
    ] in
    plain_name c.args.name.now u c.if-name-le-LONGEST_NAME.true
