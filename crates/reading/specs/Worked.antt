-- Worked examples: readings by hand.
use Rattle.std.specs.Prelude.{◌≡◌, true, false, List, [], ◌∷◌, replicate, ℤ, pos, neg_ℤ, Ok, Err}
use Rattle.reading.specs.OfBoard.{board_answer}
use Rattle.reading.specs.OfStep.{stepped}
use Rattle.reading.specs.OfTare.{tared_answer}
use Rattle.reading.specs.declared.board.Record.{Record}
use Rattle.reading.specs.declared.fault.ReadingFault.TheVariants.{NotFitted, NotAtRest, BeyondLimit}

abbrev resting : ℤ → Record
resting z = record { grams = z; resting = true }

abbrev moving : ℤ → Record
moving z = record { grams = z; resting = false }

-- channel 1 holds 1,250 grams
abbrev loaded : List Record
loaded = resting (pos 1250) ∷ []

-- channel 1 holds 1,250 grams below zero
abbrev lifted : List Record
lifted = resting (neg_ℤ (pos 1250)) ∷ []

-- channel 1 stands at the limit below zero
abbrev lowest : List Record
lowest = resting (neg_ℤ (pos 268435455)) ∷ []

-- 65 channels' worth of records
abbrev crowded : List Record
crowded = replicate 65 (resting (pos 7))

pub record Worked : Type 0 where
  -- the order of the layers matters
  pub step_over_tare : stepped 200 (tared_answer (board_answer loaded) (pos 300 ∷ []) 1) ≡ Ok (pos 800)
  pub tare_over_step : tared_answer (λ k. stepped 200 (board_answer loaded k)) (pos 300 ∷ []) 1 ≡ Ok (pos 900)
  -- a step drops toward zero on either side
  pub step_below_zero : stepped 200 (board_answer lifted 1) ≡ Ok (neg_ℤ (pos 1200))
  pub tare_below_zero : tared_answer (board_answer lifted) (pos 300 ∷ []) 1 ≡ Ok (neg_ℤ (pos 1550))
  -- a tare can take a weight beyond the limit
  pub lowest_reads : board_answer lowest 1 ≡ Ok (neg_ℤ (pos 268435455))
  pub lowest_less_one : tared_answer (board_answer lowest) (pos 1 ∷ []) 1 ≡ Err BeyondLimit
  -- channels with no counting record
  pub none_fitted : board_answer [] 1 ≡ Err NotFitted
  pub no_channel_0 : board_answer loaded 0 ≡ Err NotFitted
  pub second_missing : board_answer loaded 2 ≡ Err NotFitted
  pub record_64_counts : board_answer crowded 64 ≡ Ok (pos 7)
  pub record_65_counts_not : board_answer crowded 65 ≡ Err NotFitted
  -- rest is asked before the limit
  pub moving_heavy : board_answer (moving (pos 268435456) ∷ []) 1 ≡ Err NotAtRest
  pub resting_heavy : board_answer (resting (pos 268435456) ∷ []) 1 ≡ Err BeyondLimit
  -- the layers pass faults on
  pub tare_passes : tared_answer (board_answer (moving (pos 5) ∷ [])) (pos 300 ∷ []) 1 ≡ Err NotAtRest
  pub step_passes : stepped 200 (board_answer [] 1) ≡ Err NotFitted
