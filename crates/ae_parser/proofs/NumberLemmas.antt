-- Names as numbers.
use Rattle.std.proofs.Common.{◌≡◌, ℕ, suc, ◌+◌, ◌≤◌, ◌++◌, List, [], ◌∷◌, length, refl, sym, ap, ap₂, ◌∙◌, arith}
use Rattle.std.proofs.Common.{Bool, true, false, not, Some, None, inl, inr, lt-ltb}
use Rattle.std.proofs.lemmas.Bool.{cases_lt}
use Rattle.std.proofs.lemmas.Bool.Decides.{nat_tests}
use Rattle.std.proofs.lemmas.List.{map-append}
use Rattle.std.specs.Prelude.{bytes_eq, cond, nat_lt, ◌||◌, unwrap_or}
use Rattle.std.specs.Borrow.{Bor}
use Rattle.std.specs.List.{list_any, position, position_or_len}
use Rattle.indexmap.specs.IndexSet.{insert_key, insert_all}
use Rattle.ae_text.specs.declared.token.TokenKind.{TokenKind}
use Rattle.ae_text.specs.declared.token.TokenKind.TheVariants as k
use Rattle.ae_text.specs.declared.token.Token.{Token}
use Rattle.ae_tree.specs.Names.{spelled_before, spellings, name_number}
use Rattle.ae_parser.specs.Slices.{slices_bytes}

abbrev Slices : Type 0
Slices = List (Bor (List ℕ))

abbrev Same : (Bor (List ℕ) → Bor (List ℕ) → Bool) → Type 0
Same eq = (a b : Bor (List ℕ)) → eq a b ≡ bytes_eq a.now b.now

any_same : (eq : Bor (List ℕ) → Bor (List ℕ) → Bool) → Same eq → (s : Bor (List ℕ)) (ks : Slices)
    → list_any (eq s) ks ≡ list_any (bytes_eq s.now) (slices_bytes ks)
any_same eq same s [] = refl
any_same eq same s (x ∷ ks) = ap₂ (λ a b. a || b) (same s x) (any_same eq same s ks)

bytes_cond : (b : Bool) (ks more : Slices) → slices_bytes (cond b ks more) ≡ cond b (slices_bytes ks)
    (slices_bytes more)
bytes_cond true ks more = refl
bytes_cond false ks more = refl

pub inserted : (eq : Bor (List ℕ) → Bor (List ℕ) → Bool) → Same eq → (old new : Slices) (s : Bor (List ℕ))
    → new ≡ insert_key eq old s → slices_bytes new ≡ insert_key bytes_eq (slices_bytes old) s.now
inserted eq same old new s e =
    ap slices_bytes e ∙ bytes_cond (list_any (eq s) old) old (old ++ s ∷ [])
    ∙ ap₂ (λ b l. cond b (slices_bytes old) l) (any_same eq same s old)
    (map-append (λ (slice : Bor (List ℕ)). slice.now) old (s ∷ []))

pub position_same : (eq : Bor (List ℕ) → Bool) (s : List ℕ) → ((b : Bor (List ℕ)) → eq b ≡ bytes_eq s b.now)
    → (ks : Slices) → position_or_len eq ks ≡ name_number (slices_bytes ks) s
position_same eq s same [] = refl
position_same eq s same (x ∷ ks) = ap₂ (λ b n. cond (not b) (1 + n) 0) (same x) (position_same eq s same ks)

position_within : (eq : Bor (List ℕ) → Bool) (ks : Slices) → position_or_len eq ks ≤ length ks
position_within eq [] = omega arith
position_within eq (x ∷ ks) = bounded (not (eq x)) (position_or_len eq ks) (position_within eq ks)
  where
    bounded : (b : Bool) (n : ℕ) → n ≤ length ks → cond b (1 + n) 0 ≤ suc (length ks)
    bounded true n h = omega arith
    bounded false n h = omega arith

found : (p n : ℕ) → p ≤ n → unwrap_or (cond (nat_lt p n) (Some p) None) n ≡ p
found p n h = elim (cases_lt p n) [
  | inl less ↦ rw (lt-ltb p n less)
  | inr other ↦ let e : p ≡ n = omega arith in let t : nat_lt p n ≡ false = grind (arith, nat_tests) in rw t (sym e)
]

pub position_found : (eq : Bor (List ℕ) → Bool) (ks : Slices) → unwrap_or (position eq ks) (length ks)
    ≡ position_or_len eq ks
position_found eq ks = found (position_or_len eq ks) (length ks) (position_within eq ks)
