-- What is left in the lent memory after a compile.
use Rattle.std.proofs.Common.{◌≡◌, ℕ, List, ◌++◌, length, take, drop, sym, ap, ◌∙◌}
use lib.Seq.{take-append_seam}
use Rattle.recipe.specs.Causes.{fine, wrong}
use Rattle.recipe.specs.Compiled.{Answer, accepted, refused, answered, image_after}

-- Memory that is lent whole comes back whole.
pub refilled : (after rest : List ℕ) (n : ℕ) → length after ≡ n → take n (after ++ rest) ≡ after
refilled after rest n e = ap (λ k. take k (after ++ rest)) (sym e) ∙ take-append_seam after rest

pub words_taken : (a : Answer) (image image' : List ℕ) (n : ℕ) → fine n ≡ answered a → image' ≡ image_after a image → accepted (take n image') ≡ a
words_taken (accepted ws) image image' n e w =
    let m : n ≡ length ws = cc in
    ap accepted (ap (λ k. take k image') m ∙ (ap (take (length ws)) w ∙ take-append_seam ws (drop (length ws) image)))
words_taken (refused cause place) image image' n e w = absurd cc

pub words_told : (n : ℕ) (ws : List ℕ) (a : Answer) → fine n ≡ answered a → accepted ws ≡ a → n ≡ length ws
words_told n ws a e g = let h : fine n ≡ fine (length ws) = e ∙ ap answered (sym g) in cc

pub cause_told : (a : Answer) (cause place : ℕ) → wrong cause place ≡ answered a → refused cause place ≡ a
cause_told (accepted ws) cause place e = absurd cc
cause_told (refused d q) cause place e =
    let c : cause ≡ d = cc in
    let p : place ≡ q = cc in
    cc
