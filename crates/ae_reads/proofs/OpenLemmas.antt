-- Facts on opening values, along equations of what is opened.
use Rattle.std.proofs.Common.{◌≡◌, ◌∙◌, ◌⊎◌, inl, inr, ℕ, [], Option, None, Some, Result, sym, ap, subst}
use Rattle.std.specs.Prelude.{slice_get}
use Rattle.ae_tree.specs.declared.form.Perm.{Perm}
use Rattle.ae_tree.specs.declared.form.Perm.TheVariants as perm
use Rattle.ae_tree.specs.declared.form.Kind.{Kind}
use Rattle.ae_tree.specs.Plain.{Code}
use Rattle.ae_semantics.specs.Values.{Val, Owned, Tree, Store, is_of_kind}
use Rattle.ae_semantics.specs.Places.{Outcome, Traps, Lacks, ◌>>=◌, there, reached, State, Address, InGroup}
use Rattle.ae_semantics.specs.Places.{opened_if, opened_member, open_value}
use Rattle.ae_reads.specs.declared.stop.Stop.{Stop}
use Rattle.ae_reads.specs.Answers.{ReadsAs}

-- an answer is one of an equal outcome
pub answers_equal : {A B : Type 0} (o q : Outcome A) (view : B → A) (r : Result B Stop) → o ≡ q → ReadsAs q view r
    → ReadsAs o view r
answers_equal o q view r same h = subst (λ x. ReadsAs x view r) (sym same) h

-- the member of a group that is here, with this number
pub member_found : (p : Code) (k : Kind) (g n : ℕ) (o : Option Store) (st : Store) (t : Tree) → Some st ≡ o
    → Some t ≡ slice_get st n → (there o >>= opened_member p k g n)
    ≡ opened_if (is_of_kind p k t) (record { at = record { base = InGroup g n; fields = [] }; kind = k; tree = t })
member_found p k g n o st t here at = ap (λ x. there x >>= opened_member p k g n) (sym here)
    ∙ ap (λ x. reached x >>= λ y. opened_if (is_of_kind p k y)
    (record { at = record { base = InGroup g n; fields = [] }; kind = k; tree = y })) (sym at)

-- a member that a group that is here does not have
pub no_member : (p : Code) (k : Kind) (g n : ℕ) (o : Option Store) (st : Store) → Some st ≡ o
    → None ≡ slice_get st n → (there o >>= opened_member p k g n) ≡ Traps 3
no_member p k g n o st here at = ap (λ x. there x >>= opened_member p k g n) (sym here)
    ∙ ap (λ x. reached x >>= λ y. opened_if (is_of_kind p k y)
    (record { at = record { base = InGroup g n; fields = [] }; kind = k; tree = y })) (sym at)

-- a member of a group that is not here
pub no_group : (p : Code) (k : Kind) (g n : ℕ) (o : Option Store) → None ≡ o
    → (there o >>= opened_member p k g n) ≡ Lacks
no_group p k g n o away = ap (λ x. there x >>= opened_member p k g n) (sym away)

-- a value is opened as an equal one is, with an equal permission
pub opened_as : (p : Code) (s : State) (k : Kind) (at : Address) (q other : Perm) (v w : Val) → q ≡ other → w ≡ v
    → open_value p s q k at v ≡ open_value p s other k at w
opened_as p s k at q other v w perms values = ap (λ x. open_value p s x k at v) perms
    ∙ ap (open_value p s other k at) (sym values)

-- what stands in a place that is not shared is opened where it is of the kind
pub own_opened : (p : Code) (s : State) (k : Kind) (at : Address) (q : Perm) (v : Val) (t : Tree)
    → (q ≡ perm.Unique) ⊎ ((q ≡ perm.Immutable) ⊎ (q ≡ perm.Lent)) → Owned t ≡ v
    → open_value p s q k at v ≡ opened_if (is_of_kind p k t) (record { at = at; kind = k; tree = t })
own_opened p s k at q v t own values = elim own [
  | inl e ↦ opened_as p s k at q perm.Unique v (Owned t) e values
  | inr rest ↦ elim rest [
    | inl e ↦ opened_as p s k at q perm.Immutable v (Owned t) e values
    | inr e ↦ opened_as p s k at q perm.Lent v (Owned t) e values
  ]
]
