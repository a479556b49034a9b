-- Whether a member is there, by the store of its group.
use Rattle.std.proofs.Common.{◌≡◌, ◌∙◌, refl, ap, sym, ℕ, false, Option, None, Some, slice_get}
use Rattle.std.specs.Prelude.{is_some, option_map}
use Rattle.ae_rules.specs.Verdict.{given}
use Rattle.ae_semantics.specs.Values.{Owned, Tree, Store}
use Rattle.ae_semantics.specs.Places.{State, InGroup, members, group_of}
use Rattle.ae_stores.specs.Stand.{whole_at}

-- a member is there where its group has one of this number
pub member_by_store : (s : State) (g n : ℕ) (o : Option Store) → o ≡ members (group_of s g)
    → is_some (whole_at s (InGroup g n)) ≡ given o false (λ st. is_some (slice_get st n))
member_by_store s g n o is =
    ap (λ (p : Option Store). is_some (given p None (λ st. option_map Owned (slice_get st n)))) (sym is) ∙ by_store o
  where
    by_member : (p : Option Tree) → is_some (option_map Owned p) ≡ is_some p
    by_member None = refl
    by_member (Some t) = refl

    by_store : (p : Option Store) → is_some (given p None (λ st. option_map Owned (slice_get st n)))
        ≡ given p false (λ st. is_some (slice_get st n))
    by_store None = refl
    by_store (Some st) = by_member (slice_get st n)
