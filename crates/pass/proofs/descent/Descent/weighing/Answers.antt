use Rattle.std.proofs.Common.{length, arith}
use Rattle.recipe.specs.Tokens.{Literal}
use Rattle.pass.specs.Outputs.{Made}
use Rattle.pass.proofs.Steps.{weigh_read}
use Rattle.pass.proofs.Makes.{at_of, from, made_weigh}
use Rattle.pass.proofs.Spots.{further, past_kind}
use Rattle.pass.proofs.descent.Descent.weighing.Goals as goal

pub returns-in-Number : goal.returns-in-Number
unfolding weigh_read
returns-in-Number c =
    let a = c.in_ok-after.ensures in
    let s = c.past.ensures in
    let x : Literal = record { place = c.in_ok-after.after.look.start; value = c.in-Number.value } in
    record {
      on = further c.requires.ready.0 c.past.result s.0.fit (omega (arith, a.0.far, s.0.far)) (omega (arith, a.1, s.1)) _ (omega (arith, a.1, s.1, at_of c.channel-out.ensures.made, at_of a.0.out));
      read = weigh_read (length c.args.self.now.text.now) x (past_kind c.requires.kind a.0) a.1 a.0.fit.1 (past_kind c.in-Number.is s.0) s.1;
      made = from Made a.0.out (made_weigh x c.channel-out.ensures.made c.channel-out.ensures.written);
    }
