-- What is kept of a caller while its method runs, and how all comes back from it.
use Rattle.std.specs.Prelude.{◌≡◌, ℕ, Bool, true, false, if◌then◌else◌, List, [], ◌∷◌, zip, filter_map, Option, None}
use Rattle.std.specs.Prelude.{Some, option_map}
use Rattle.ae_tree.specs.declared.tree.GroupNeed.{GroupNeed}
use Rattle.ae_tree.specs.Plain.{Invocation}
use Rattle.ae_rules.specs.Lookups.{has_name}
use Rattle.ae_rules.specs.Calls.{givens}
use Rattle.ae_semantics.specs.Places.{Outcome, Fine, ◌>>=◌, there, State, Bound, Address, write, with}
use Rattle.ae_semantics.specs.Calls.{Argument, Taker, value_comes_back, without_moved, given_away}
use Rattle.ae_stores.specs.Stand.{is_local, nulled}
use Rattle.ae_frames.specs.Entries.{EnteredCall}
use Rattle.ae_frames.specs.Granting.{LentGroup, lent_from, is_holder}

-- what this parameter holds comes back to this place
pub record ComesBack : Type 0 where
  pub name : ℕ
  pub at : Address

-- where it does, a parameter of this name comes back to the place of its argument
abbrev pub back_from : ℕ → Bool → Option Address → Option ComesBack
back_from name comes None = None
back_from name comes (Some at) = if comes then Some (record { name = name; at = at }) else None

-- a unique parameter that is not given away comes back to the place of its argument
abbrev pub returning : Taker × Argument → Option ComesBack
returning x = back_from x.0.0 (value_comes_back x.0.1) x.1.from

-- the value that the method left comes back
abbrev pub comes_back : ComesBack → State → State → Outcome State
comes_back x after s = there (after.locals x.name) >>= λ b. write s x.at b.value

-- in order
abbrev pub values_brought_back : List ComesBack → State → State → Outcome State
values_brought_back [] after s = Fine s
values_brought_back (x ∷ xs) after s = comes_back x after s >>= values_brought_back xs after

-- what the method left of the groups that were lent stands again where it was
abbrev pub groups_come_back : List LentGroup → State → State → State
groups_come_back [] after s = s
groups_come_back (l ∷ ls) after s = groups_come_back ls after
    (record s { groups = with l.holder (after.groups l.group) s.groups })

-- The second half of a call, by what was kept, over what is left of the caller.
abbrev pub brought_back : List ComesBack → List LentGroup → List ℕ → State → State → Outcome State
brought_back back lent gone after s = values_brought_back back after (groups_come_back lent after (without_moved gone s))

-- the places in a local to which values come back
abbrev pub backs_to : ℕ → List ComesBack → List (List ℕ)
backs_to y [] = []
backs_to y (x ∷ xs) = if is_local y x.at.base then x.at.fields ∷ backs_to y xs else backs_to y xs

-- What is left of a local of the caller: it is as it was, or it is given away, or the one value that comes back to it
-- was taken out of its place.
pub data IsLocalLeft (back : List ComesBack) (gone : List ℕ) (y : ℕ) (before now : Option Bound) : Type 0 where
  AsItWas : now ≡ before → IsLocalLeft back gone y before now
  GivenAway : has_name gone y ≡ true → IsLocalLeft back gone y before now
  TakenOut : (fields : List ℕ) → backs_to y back ≡ fields ∷ [] → now ≡ option_map (nulled fields) before
      → IsLocalLeft back gone y before now

-- what is left of the caller, where these values come back, these groups are lent and these names are given away: all
-- else is as it was
pub record IsLeftOf (back : List ComesBack) (lent : List LentGroup) (gone : List ℕ) (before s : State) : Type 0 where
  pub locals : (y : ℕ) → IsLocalLeft back gone y (before.locals y) (s.locals y)
  pub groups : (y : ℕ) → is_holder lent y ≡ false → s.groups y ≡ before.groups y
  pub result : s.result ≡ before.result

-- what is kept of the caller of an entered call
pub record IsKept (x : EnteredCall) (i : Invocation) (bs : List ComesBack) (ls : List LentGroup) (xs : List ℕ) : Type 0 where
  pub back : bs ≡ filter_map returning (zip x.takers x.arguments)
  pub lent : ls ≡ filter_map (λ (n : GroupNeed). lent_from (x.groups n.group.name) n.group.name
      (x.state.groups n.group.name)) x.callee.method.needs
  pub gone : xs ≡ filter_map given_away (zip x.takers (givens i))
