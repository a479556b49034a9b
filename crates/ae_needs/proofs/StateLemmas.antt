-- States that agree on all are one.
use Rattle.std.proofs.Common.{◌≡◌, refl, sym, ap, ◌∙◌, ℕ, Bool, true, Option, None, Some}
use mathlib.Core.Path.{fun_ext}
use Rattle.ae_rules.specs.declared.uses.Resource.{Resource}
use Rattle.ae_semantics.specs.Values.{Val}
use Rattle.ae_semantics.specs.Places.{Group, Here, Away, As, Bound, State, other_name, name_of, group_of}
use Rattle.ae_needs.specs.Agree.{Agree}

group_is : (s t : State) (g : ℕ) → name_of s g ≡ name_of t g → group_of s g ≡ group_of t g → s.groups g ≡ t.groups g
group_is s t g names groups = by_group (s.groups g) (t.groups g) refl refl
  where
    at_own : name_of s g ≡ g → s.groups g ≡ t.groups g
    at_own own = ap s.groups (sym own) ∙ groups ∙ ap t.groups (sym names ∙ own)

    first_own : (o : Option Group) → s.groups g ≡ o → other_name g o ≡ g → s.groups g ≡ t.groups g
    first_own o e own = at_own (ap (other_name g) e ∙ own)

    second_own : (o : Option Group) → t.groups g ≡ o → other_name g o ≡ g → s.groups g ≡ t.groups g
    second_own o e own = at_own (names ∙ ap (other_name g) e ∙ own)

    by_group : (o q : Option Group) → s.groups g ≡ o → t.groups g ≡ q → s.groups g ≡ t.groups g
    by_group None q e i = first_own None e refl
    by_group (Some (Here st)) q e i = first_own (Some (Here st)) e refl
    by_group (Some (Away cell)) q e i = first_own (Some (Away cell)) e refl
    by_group (Some (As h)) None e i = second_own None i refl
    by_group (Some (As h)) (Some (Here st)) e i = second_own (Some (Here st)) i refl
    by_group (Some (As h)) (Some (Away cell)) e i = second_own (Some (Away cell)) i refl
    by_group (Some (As h)) (Some (As l)) e i =
        let same : h ≡ l = sym (ap (other_name g) e) ∙ names ∙ ap (other_name g) i in
        e ∙ ap (λ (x : ℕ). Some (As x)) same ∙ sym i

state_is : (s t : State) → s.locals ≡ t.locals → s.groups ≡ t.groups → s.result ≡ t.result → s ≡ t
state_is s t e i j =
    ap (λ (l : ℕ → Option Bound). record { locals = l; groups = s.groups; result = s.result }) e
    ∙ ap (λ (l : ℕ → Option Group). record { locals = t.locals; groups = l; result = s.result }) i
    ∙ ap (λ (l : Option Val). record { locals = t.locals; groups = t.groups; result = l }) j

-- States that agree on all are one.
pub one_state : (on : Resource → Bool) (s t : State) → ((r : Resource) → on r ≡ true) → Agree on s t → s ≡ t
one_state on s t h a = state_is s t (fun_ext (λ x. a.locals x (h _)))
    (fun_ext (λ g. group_is s t g (a.names g (h _)) (a.groups g (h _)))) a.result
