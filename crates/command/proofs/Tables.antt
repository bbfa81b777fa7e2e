-- A word that has the bytes of a text means what the text does.
use Rattle.std.proofs.Common.{◌≡◌, ℕ, List, length, Option, sym, ap}
use Rattle.std.proofs.lemmas.Slice.Eq.{HasBytesAt, text_from_reads}

pub spelled : {A : Type 0} (meaning : List ℕ → Option A) (w text : List ℕ) → length w ≡ length text → HasBytesAt w 0 text → meaning text ≡ meaning w
spelled meaning w text long bytes = sym (ap meaning (text_from_reads w text long bytes))
