-- The texts of graphs, one after another.
use Rattle.std.proofs.Common.{◌≡◌, ℕ, suc, ◌+◌, ◌<◌, List, [], ◌∷◌, ◌++◌, length, get_or, take, sym, ap}
use Rattle.std.proofs.Common.{◌∙◌, arith, append_assoc, add-zero, zero-add}
use Rattle.std.proofs.lemmas.List.{append-nil, take_more}
use Rattle.std.specs.Fmt.{decimal}
use Rattle.ae_graph.specs.Graph.{Graph}
use Rattle.ae_graph.specs.GraphText.{spaced, line_text, lines_text}
use Rattle.ae_graph.proofs.Rows.{length_taken}

spaced-push : (xs : List ℕ) (x : ℕ) → spaced (xs ++ x ∷ []) ≡ spaced xs ++ 32 ∷ decimal x
spaced-push [] x = append-nil (32 ∷ decimal x)
spaced-push (y ∷ xs) x = ap (λ t. 32 ∷ decimal y ++ t) (spaced-push xs x)
    ∙ sym (append_assoc (32 ∷ decimal y) (spaced xs) (32 ∷ decimal x))

pub spaced_more : (old now new xs : List ℕ) (i : ℕ) → i < length xs → now ≡ old ++ spaced (take i xs)
    → new ≡ now ++ 32 ∷ decimal (get_or xs i 0) → new ≡ old ++ spaced (take (i + 1) xs)
spaced_more old now new xs i h e f =
    let x = get_or xs i 0 in
    f ∙ ap (λ (t : List ℕ). t ++ 32 ∷ decimal (get_or xs i 0)) e
    ∙ append_assoc old (spaced (take i xs)) (32 ∷ decimal (get_or xs i 0))
    ∙ ap (λ t. old ++ t) (sym (spaced-push (take i xs) (get_or xs i 0)))
    ∙ ap (λ (l : List ℕ). old ++ spaced l) (sym (take_more xs i 0 h))

lines_text-push : (j : ℕ) (g : Graph) (row : List ℕ) → lines_text j (g ++ row ∷ []) ≡ lines_text j g
    ++ line_text (j + length g) row
lines_text-push j [] row = append-nil (line_text j row) ∙ ap (λ n. line_text n row) (sym (add-zero j))
lines_text-push j (p ∷ g) row =
    ap (λ t. line_text j p ++ t) (lines_text-push (j + 1) g row)
    ∙ sym (append_assoc (line_text j p) (lines_text (j + 1) g) (line_text (j + 1 + length g) row))
    ∙ ap (λ n. (line_text j p ++ lines_text (j + 1) g) ++ line_text n row) (next_length j (length g))
  where
    next_length : (j n : ℕ) → j + 1 + n ≡ j + suc n
    next_length j n = omega arith

pub lines_more : (old now new : List ℕ) (g : Graph) (i : ℕ) (row : List ℕ) → i < length g → row ≡ get_or g i row
    → now ≡ old ++ lines_text 0 (take i g) → new ≡ now ++ line_text i row
    → new ≡ old ++ lines_text 0 (take (i + 1) g)
lines_more old now new g i row h r e f =
    let n : 0 + length (take i g) ≡ i = zero-add (length (take i g)) ∙ length_taken g i h in
    f ∙ ap (λ (t : List ℕ). t ++ line_text i row) e
    ∙ append_assoc old (lines_text 0 (take i g)) (line_text i row)
    ∙ ap (λ (x : ℕ). old ++ (lines_text 0 (take i g) ++ line_text x row)) (sym n)
    ∙ ap (λ t. old ++ t) (sym (lines_text-push 0 (take i g) row))
    ∙ ap (λ (x : List ℕ). old ++ lines_text 0 (take i g ++ x ∷ [])) r
    ∙ ap (λ (x : Graph). old ++ lines_text 0 x) (sym (take_more g i row h))
