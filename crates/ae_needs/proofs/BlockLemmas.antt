-- States that agree in a block agree where it is left; runs that go alike, and are known to come to something.
use Rattle.std.proofs.Common.{◌≡◌, refl, sym, ap, ◌∙◌, ℕ, Bool, true, false, if◌then◌else◌, Option, None}
use Rattle.std.specs.Prelude.{is_some, ⊤}
use Rattle.ae_rules.specs.declared.uses.Resource.{Resource}
use Rattle.ae_rules.specs.declared.uses.Resource.TheVariants as resource
use Rattle.ae_rules.specs.declared.uses.Mode.{Mode}
use Rattle.ae_rules.specs.Edges.{Uses}
use Rattle.ae_rules.specs.Groups.{known}
use Rattle.ae_rules.specs.Context.{Context}
use Rattle.ae_rules.specs.Uses.{is_seen, outside}
use Rattle.ae_semantics.specs.Places.{Group, State, other_name, name_of, group_of}
use Rattle.ae_semantics.specs.Observations.{Notes}
use Rattle.ae_semantics.specs.Runs.{Run, Went, Ends, Stops, Act, and_then, chosen}
use Rattle.ae_semantics.specs.Meaning.{forgotten, left}
use Rattle.ae_soundness.specs.Whole.{RunsTo}
use Rattle.ae_needs.specs.Agree.{Agree, Covers, GoAlike}
use Rattle.ae_needs.proofs.AgreeLemmas.{AllIn}
use Rattle.ae_needs.proofs.AlikeLemmas.{prints_nothing, after_prints, runs_then}

-- ---- a block is left

-- what is kept only where it is visible is the same where it was
seen_same : {A : Type 0} (b : Bool) (o q : Option A) → (b ≡ true → o ≡ q)
    → (if b then o else None) ≡ (if b then q else None)
seen_same true o q h = h refl
seen_same false o q h = refl

-- Where states agree in a block, where it is left they agree on what was agreed on and visible outside, and on all that
-- was not visible.
pub forgotten_agrees : (on inner : Resource → Bool) (c : Context) (s t : State)
    → ((r : Resource) → on r ≡ true → is_seen c r ≡ true → inner r ≡ true) → Agree inner s t
    → Agree on (forgotten c s) (forgotten c t)
forgotten_agrees on inner c s t h a = record {
  locals = λ x e. seen_same (is_some (c.local x)) (s.locals x) (t.locals x)
      (λ i. a.locals x (h (resource.Local x) e i));
  names = λ g e. by_test g (known c.group g) refl
      (λ i. a.names g (h (resource.Group g) e i));
  groups = λ g e. group_there g (known c.group g) refl (λ i. a.names g (h (resource.Group g) e i))
      (λ i. a.groups g (h (resource.Group g) e i));
  result = a.result;
}
  where
    shown : State → ℕ → Bool → Option Group
    shown u g b = if b then u.groups g else None

    by_test : (g : ℕ) (b : Bool) → known c.group g ≡ b → (known c.group g ≡ true → name_of s g ≡ name_of t g)
        → other_name g (shown s g b) ≡ other_name g (shown t g b)
    by_test g true i k = k i
    by_test g false i k = refl

    -- what is shown under a name
    under : State → ℕ → Option Group
    under u n = shown u n (known c.group n)

    group_there : (g : ℕ) (b : Bool) → known c.group g ≡ b → (known c.group g ≡ true → name_of s g ≡ name_of t g)
        → (known c.group g ≡ true → group_of s g ≡ group_of t g)
        → under s (other_name g (shown s g b)) ≡ under t (other_name g (shown t g b))
    group_there g true i k l = ap (λ (n : ℕ). if known c.group n then group_of s g else None) (k i)
        ∙ ap (λ (o : Option Group). if known c.group (name_of t g) then o else None) (l i)
    group_there g false i k l = ap (shown s g) i ∙ sym (ap (shown t g) i)

-- A block that goes alike is left alike.
pub left_alike : {W : Type 0} (on inner : Resource → Bool) (c : Context) (n k : Notes W) (r q : Run W)
    → ((x : Resource) → on x ≡ true → is_seen c x ≡ true → inner x ≡ true) → GoAlike (Agree inner) n k r q
    → GoAlike (Agree on) n k (left c r) (left c q)
left_alike on inner c n k r q h g = runs_then (Agree inner) (Agree on) n k r q (λ s n. Went (forgotten c s) n)
    (λ s n. Went (forgotten c s) n) g
    (λ s t x y a. (forgotten_agrees on inner c s t h a, prints_nothing x.log y.log))

-- What is used and visible outside is covered.
pub outside_covers : (on : Resource → Bool) (c : Context) (u : Uses) → AllIn on (outside c u) → Covers on c u
outside_covers on c u i r e j = i r (ap (λ (b : Bool). is_some {T = Mode} (if b then u r else None)) e ∙ j)

-- ---- runs

-- After one test there is the one pair of runs or the other.
pub chosen_alike : {W : Type 0} (S : State → State → Type 0) (n k : Notes W) (test : Bool)
    (yes_then no_then yes_too no_too : ⊤ → Run W) → GoAlike S n k (yes_then tt) (yes_too tt)
    → GoAlike S n k (no_then tt) (no_too tt)
    → GoAlike S n k (chosen test yes_then no_then) (chosen test yes_too no_too)
chosen_alike S n k true yes_then no_then yes_too no_too h i = h
chosen_alike S n k false yes_then no_then yes_too no_too h i = i

-- First they go alike, each to what is known of it, and then what follows goes alike.
pub runs_with : {W : Type 0} (R S : State → State → Type 0) (P Q : State → Type 0) (n k : Notes W) (r q : Run W)
    (go other : Act W) → GoAlike R n k r q → RunsTo P r → RunsTo Q q
    → ((s t : State) (x y : Notes W) → R s t → P s → Q t → GoAlike S x y (go s x) (other t y))
    → GoAlike S n k (and_then r go) (and_then q other)
runs_with R S P Q n k (Went s x) (Went t y) go other h i j f = after_prints S n k x y (go s x) (other t y) h.1
    (f s t x y h.0 i j)
runs_with R S P Q n k (Went s x) (Ends e y) go other h i j f = absurd h
runs_with R S P Q n k (Went s x) (Stops y) go other h i j f = absurd h
runs_with R S P Q n k (Ends e x) (Went t y) go other h i j f = absurd h
runs_with R S P Q n k (Ends e x) (Ends g y) go other h i j f = h
runs_with R S P Q n k (Ends e x) (Stops y) go other h i j f = absurd h
runs_with R S P Q n k (Stops x) (Went t y) go other h i j f = absurd h
runs_with R S P Q n k (Stops x) (Ends e y) go other h i j f = absurd h
runs_with R S P Q n k (Stops x) (Stops y) go other h i j f = h
