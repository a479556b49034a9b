-- The groups that a method needs, as a caller has them, need by need.
use Rattle.std.specs.Prelude.{ℕ, nat_eq, Bool, true, false, if◌then◌else◌, List, [], ◌∷◌, ◌++◌, Option, None, Some}
use Rattle.std.specs.Prelude.{◌≡◌, option_map, is_some}
use Rattle.std.specs.List.{cons_option, list_any}
use Rattle.ae_tree.specs.declared.tree.GroupNeed.{GroupNeed}
use Rattle.ae_semantics.specs.Places.{Group, Here, Away, As, other_name, with}
use Rattle.ae_values.specs.declared.env.Env.{Env}
use Rattle.ae_values.specs.declared.env.Bound.{Bound}
use Rattle.ae_values.specs.declared.env.Bound.TheVariants as bound
use Rattle.ae_values.specs.Environments.{bound_under, groups_in}
use Rattle.ae_reads.specs.Answers.{one_name}
use Rattle.ae_calls.specs.declared.params.GroupsIn.{GroupsIn}
use Rattle.ae_calls.specs.Param.{new_in}

-- where these are the caller's groups, its name under which what there is of a group of the method stands
abbrev pub holder_by : (ℕ → Option Group) → GroupsIn → ℕ → ℕ
holder_by cs new g = other_name (new_in new g) (cs (new_in new g))

-- the first of these needs that is for this group of the caller, by its name
abbrev pub first_need : (ℕ → ℕ) → List GroupNeed → ℕ → Option ℕ
first_need groups [] h = None
first_need groups (n ∷ ns) h = if nat_eq (groups n.group.name) h then Some n.group.name else first_need groups ns h

-- what is got of a group of the caller: where an earlier need has it, the name of that one
abbrev pub got_after : Option ℕ → Option Group → Option Group
got_after None c = c
got_after (Some f) c = option_map (λ (x : Group). As f) c

-- what is got for a need of this group after earlier ones
abbrev pub got : (ℕ → ℕ) → (ℕ → Option Group) → List GroupNeed → ℕ → Option Group
got groups cs earlier g = got_after (first_need groups earlier (groups g)) (cs (groups g))

-- a group under its name, where there is something of it
abbrev pub named_so : ℕ → Option Group → Option (ℕ × Group)
named_so g c = option_map (λ (x : Group). (g, x)) c

-- what is got for needs in order, after earlier ones
abbrev pub all_got : (ℕ → ℕ) → (ℕ → Option Group) → List GroupNeed → List GroupNeed → List (ℕ × Group)
all_got groups cs earlier [] = []
all_got groups cs earlier (n ∷ ns) = cons_option (named_so n.group.name (got groups cs earlier n.group.name))
    (all_got groups cs (earlier ++ (n ∷ [])) ns)

-- a group of the method, and the caller's name from which it was lent
pub record LentGroup : Type 0 where
  pub group : ℕ
  pub holder : ℕ

-- the group itself is got, and not another name of it
abbrev pub is_lent : Option Group → Bool
is_lent None = false
is_lent (Some (Here st)) = true
is_lent (Some (Away cell)) = true
is_lent (Some (As h)) = false

-- the group is lent from this name of the caller, where it itself is got
abbrev pub lent_from : ℕ → ℕ → Option Group → Option LentGroup
lent_from h g c = if is_lent c then Some (record { group = g; holder = h }) else None

-- the groups that are lent for needs in order, after earlier ones
abbrev pub all_lent : (ℕ → ℕ) → (ℕ → Option Group) → List GroupNeed → List GroupNeed → List LentGroup
all_lent groups cs earlier [] = []
all_lent groups cs earlier (n ∷ ns) = cons_option
    (lent_from (groups n.group.name) n.group.name (got groups cs earlier n.group.name))
    (all_lent groups cs (earlier ++ (n ∷ [])) ns)

-- the name is one from which a group was lent
abbrev pub is_holder : List LentGroup → ℕ → Bool
is_holder ls y = list_any (λ (l : LentGroup). nat_eq l.holder y) ls

-- the first group of this name in a list
abbrev pub group_in_list : List (ℕ × Group) → ℕ → Option Group
group_in_list [] y = None
group_in_list (x ∷ xs) y = if nat_eq x.0 y then Some x.1 else group_in_list xs y

-- what is bound where placeholders stand for these groups
abbrev pub with_placeholders : List LentGroup → (ℕ → Option Bound) → ℕ → Option Bound
with_placeholders [] f = f
with_placeholders (l ∷ ls) f = with_placeholders ls (with l.holder (Some (bound.Cell 0)) f)

-- the groups that are seen in an environment
abbrev pub groups_seen : Env → ℕ → Option Group
groups_seen e = groups_in one_name (bound_under e)

-- Some of the caller's groups were lent for these needs: the names lead on as before, there is something of the same
-- groups, and what no need was for is as it was.
pub record IsAlike (groups : ℕ → ℕ) (earlier : List GroupNeed) (cs now : ℕ → Option Group) : Type 0 where
  pub leads : (y : ℕ) → other_name y (now y) ≡ other_name y (cs y)
  pub there : (y : ℕ) → is_some (now y) ≡ is_some (cs y)
  pub same : (y : ℕ) → first_need groups earlier y ≡ None → now y ≡ cs y
