-- Lines, and what each means.
use Rattle.std.specs.Prelude.{◌≡◌, true, false, [], ◌∷◌, pos, negsuc, Some, None, Ok, Err, codes}
use Rattle.command.specs.declared.types.Verb.TheVariants as verb
use Rattle.command.specs.declared.types.Wanted.TheVariants as wanted
use Rattle.command.specs.declared.types.Pile.TheVariants.{StepTare}
use Rattle.command.specs.declared.types.Misreading.TheVariants.{UnknownCommand, Arguments}
use Rattle.command.specs.declared.misread.Misread.TheVariants.{Missing, Wrong, TooMany}
use Rattle.command.specs.Understood.{put, raw, pile, weigh, total, understood}

pub record Worked : Type 0 where
  pub put_at_rest : understood (codes "put 3 -1250 rest") ≡ Ok (Some (put 3 (negsuc 1249) true))
  -- tabs and several blanks, and a carriage return at the end
  pub blanks : understood (codes " \tput  3\t -1250 \t rest\r") ≡ Ok (Some (put 3 (negsuc 1249) true))
  pub leading_zeros : understood (codes "put 003 00012 moving") ≡ Ok (Some (put 3 (pos 12) false))
  pub note : understood (codes "# note") ≡ Ok None
  pub empty : understood [] ≡ Ok None
  pub only_blanks : understood (codes " \t\r") ≡ Ok None
  pub no_grams : understood (codes "put 3") ≡ Err (Arguments (Missing verb.Put wanted.Grams))
  pub no_channel : understood (codes "put x 5 rest") ≡ Err (Arguments (Wrong verb.Put wanted.Channel))
  pub no_mark : understood (codes "put 3 5 resting") ≡ Err (Arguments (Wrong verb.Put wanted.Mark))
  pub two_signs : understood (codes "put 3 --5 rest") ≡ Err (Arguments (Wrong verb.Put wanted.Grams))
  pub above_32_bits : understood (codes "weigh 4294967296") ≡ Err (Arguments (Wrong verb.Weigh wanted.Channel))
  pub largest_channel : understood (codes "weigh 4294967295") ≡ Ok (Some (weigh 4294967295))
  pub least_grams : understood (codes "raw 1 -2147483648 moving") ≡ Ok (Some (raw 1 (negsuc 2147483647) false))
  pub above_largest_grams : understood (codes "tare 1 2147483648") ≡ Err (Arguments (Wrong verb.Tare wanted.Grams))
  pub three_channels : understood (codes "total 1 2 3") ≡ Ok (Some (total (1 ∷ 2 ∷ 3 ∷ [])))
  pub no_channels : understood (codes "total") ≡ Err (Arguments (Missing verb.Total wanted.Channel))
  pub of_a_pile : understood (codes "pile step-tare") ≡ Ok (Some (pile StepTare))
  pub unknown : understood (codes "fly 3") ≡ Err UnknownCommand
  pub capital : understood (codes "Put 3 5 rest") ≡ Err UnknownCommand
  pub too_many : understood (codes "interval 5 5") ≡ Err (Arguments (TooMany verb.Interval))
