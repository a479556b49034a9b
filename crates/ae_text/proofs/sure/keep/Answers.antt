use Rattle.std.proofs.Common.{◌≡◌, ◌≤◌, ◌+◌, ◌-◌, List, ℕ, ◌++◌, length, take, min, sym, ap, ◌∙◌, arith}
use Rattle.std.proofs.lemmas.List.{take_min, length-take}
use Rattle.std.proofs.Math.Seq.{take-append-add}
use Rattle.ae_text.proofs.sure.keep.Goals as goal

-- what the free part takes of a piece is what fits behind the used part
fits : (used n : ℕ) (room free piece : List ℕ) → used ≤ length room → n ≡ min (length free) (length piece)
    → length free ≡ length room - used → take n free ≡ take n piece →
    take (used + n) (take used room ++ free) ≡ take (length room) (take used room ++ piece)
fits used n room free piece h count size same =
    let a : List ℕ = take used room in
    let front : length a ≡ used = omega (arith, length-take used room) in
    let all : length room ≡ length a + length free = omega arith in
    let left : take (used + n) (a ++ free) ≡ a ++ take n free = ap (λ k. take (k + n) (a ++ free)) (sym front)
    ∙ take-append-add a free n in
    let right : take (length room) (a ++ piece) ≡ a ++ take (length free) piece = ap (λ k. take k (a ++ piece)) all
    ∙ take-append-add a piece (length free) in
    let cut : take n piece ≡ take (length free) piece = ap (λ k. take k piece) count ∙ take_min (length free) piece in
    left ∙ ap (λ l. a ++ l) (same ∙ cut) ∙ sym right

pub returns-clause-kept : goal.returns-clause-kept
returns-clause-kept c =
    let count : c.give.result ≡ min (length c.give.new.buf) (length c.args.piece.now) = omega arith in
    let size : length c.give.new.buf ≡ length c.args.room.now - c.args.used = omega arith in
    rw (c.split_at_mut.ensures.front) (fits _ _ c.args.room.now _ _ c.requires count size c.give.ensures.bytes)
