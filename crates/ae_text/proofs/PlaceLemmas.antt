-- Places by the line feeds and the bytes before them.
use Rattle.std.proofs.Common.{◌≡◌, ◌==◌, if◌then◌else◌, ℕ, ◌+◌, Bool, true, false, cond, [], ◌∷◌, ◌++◌, length, take}
use Rattle.std.proofs.Common.{refl, ap, ◌∙◌, arith}
use Rattle.std.specs.List.{count_by}
use Rattle.std.proofs.lemmas.List.Sums.{sum_by-cons}
use Rattle.ae_text.specs.declared.refusal.Spot.{Spot}
use Rattle.ae_text.specs.Tokens.{Text, Each, in_line, next_spot, first_spot, spot_after, place}

-- one byte, by its test
abbrev chosen : Bool → Spot → Spot
chosen b p = if b then record { line = p.line + 1; col = 1 } else record { line = p.line; col = p.col + 1 }

chosen-line : (b : Bool) (p : Spot) → (chosen b p).line ≡ p.line + cond b 1 0
chosen-line true p = refl
chosen-line false p = omega arith

abbrev feed : ℕ → Bool
feed b = b == 10

moved-line : (p : Spot) (bs : Text) → (spot_after p bs).line ≡ p.line + count_by feed bs
moved-line p [] = omega arith
moved-line p (b ∷ bs) = let here = chosen-line (b == 10) p in let rest = moved-line (next_spot p b) bs in let sum
    : count_by feed (b ∷ bs) ≡ cond (b == 10) 1 0 + count_by feed bs = sum_by-cons
    (λ x. cond (feed x) 1 0) b bs in omega (arith, here, rest, sum)

not_feed : (b : Bool) (p : Spot) → (if b then false else true) ≡ true → (chosen b p).col ≡ p.col + 1
not_feed true p h = absurd (let no_way : false ≡ true = h in cc)
not_feed false p h = refl

moved-col : (p : Spot) (bs : Text) → Each in_line bs → (spot_after p bs).col ≡ p.col + length bs
moved-col p [] e = omega arith
moved-col p (b ∷ bs) e = let here = not_feed (b == 10) p e.0 in let rest = moved-col (next_spot p b) bs e.1 in omega
    (arith, here, rest)

pub moved-append : (p : Spot) (a b : Text) → spot_after p (a ++ b) ≡ spot_after (spot_after p a) b
moved-append p [] b = refl
moved-append p (x ∷ a) b = moved-append (next_spot p x) a b

pub place-line : (text : Text) (at : ℕ) → (place text at).line ≡ 1 + count_by feed (take at text)
place-line text at = moved-line first_spot (take at text)

pub place-first : (text : Text) (at : ℕ) → Each in_line (take at text) → (place text at).col ≡ 1 + length (take at text)
place-first text at e = moved-col first_spot (take at text) e

pub place-later : (text before line : Text) (at : ℕ) → take at text ≡ before ++ 10 ∷ line → Each in_line line
    → (place text at).col ≡ 1 + length line
place-later text before line at e i =
    ap (λ s. (spot_after first_spot s).col) e ∙ ap (λ (p : Spot). p.col) (moved-append first_spot before (10 ∷ line))
    ∙ moved-col (next_spot (spot_after first_spot before) 10) line i
