use Rattle.std.proofs.Common.{refl}
use Rattle.machine.proofs.Decodes.{taken_apart, operators, calls}
use Rattle.machine.proofs.theorems.encoded_words_decode.Goals as goal

pub returns : goal.returns
returns c = record {
  num = λ n h. taken_apart 0 n h;
  var = λ slot h. taken_apart 1 slot h;
  op = operators;
  out = refl;
  unless = λ target h. taken_apart 4 target h;
  go = λ target h. taken_apart 5 target h;
  call = calls;
  back = refl;
  weigh = λ channel h. taken_apart 8 channel h;
  head = λ n h. taken_apart 9 n h;
  fn = λ arity h. taken_apart 10 arity h;
}
