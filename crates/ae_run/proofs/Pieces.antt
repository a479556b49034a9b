-- What statements printed, one more at a time.
use Rattle.std.proofs.Common.{◌≡◌, ◌<◌, ◌+◌, ℕ, zero, suc, List, [], ◌∷◌, ◌++◌, length, get_or, take, append_assoc}
use Rattle.std.proofs.Common.{refl, ap, sym, ◌∙◌, arith}
use Rattle.ae_run.specs.declared.course.Fate.{Fate}
use Rattle.ae_run.specs.Course.{piece_of, pieces}

pub append_nil : (xs : List ℕ) → xs ++ [] ≡ xs
append_nil [] = refl
append_nil (x ∷ xs) = ap (λ ys. x ∷ ys) (append_nil xs)

more_suc : (fs : List Fate) (i : ℕ) (f : Fate) → i < length fs → f ≡ get_or fs i f → pieces (take (suc i) fs)
    ≡ pieces (take i fs) ++ piece_of f
more_suc [] i f l e = absurd (omega arith)
more_suc (g ∷ fs) zero f l e = append_nil (piece_of g) ∙ ap piece_of (sym e)
more_suc (g ∷ fs) (suc i) f l e = ap (λ ys. piece_of g ++ ys) (more_suc fs i f (omega arith) e)
    ∙ sym (append_assoc (piece_of g) (pieces (take i fs)) (piece_of f))

pub pieces_more : (fs : List Fate) (i : ℕ) (f : Fate) → i < length fs → f ≡ get_or fs i f → pieces (take (i + 1) fs)
    ≡ pieces (take i fs) ++ piece_of f
pieces_more fs i f l e = let n : i + 1 ≡ suc i = omega arith in ap (λ k. pieces (take k fs)) n ∙ more_suc fs i f l e
