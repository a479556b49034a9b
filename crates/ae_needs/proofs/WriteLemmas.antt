-- From states that agree a value is written alike to a place that stands in what they agree on.
use Rattle.std.proofs.Common.{◌≡◌, ◌⊎◌, inl, ap, ℕ, Bool, true, List, Option, Some}
use Rattle.std.specs.Prelude.{slice_get}
use Rattle.ae_tree.specs.declared.form.Form.{Form}
use Rattle.ae_rules.specs.declared.uses.Resource.{Resource}
use Rattle.ae_rules.specs.declared.uses.Resource.TheVariants as resource
use Rattle.ae_semantics.specs.Values.{Val, OfInt, OfBool, Null, Owned, Member, Store, put_at}
use Rattle.ae_semantics.specs.Places.{Fine, ◌>>=◌, there, Group, State, with_bound, members, store_of}
use Rattle.ae_semantics.specs.Places.{Base, InLocal, InGroup, low, bind, with_member, rewrite_member, write_in}
use Rattle.std.specs.Prelude as prelude
use Rattle.ae_needs.specs.Agree.{Agree}
use Rattle.ae_needs.proofs.AgreeLemmas.{bound_agrees, members_keep}
use Rattle.ae_needs.proofs.AlikeLemmas.{Alike, from_one, from_same}
use Rattle.ae_needs.proofs.WalkLemmas.{StandsOn}

-- A local gets the same value in both, and they agree on it then.
pub bind_alike : (on more : Resource → Bool) (x : ℕ) (w : Form) (v : Val) (s t : State)
    → ((r : Resource) → more r ≡ true → (on r ≡ true) ⊎ (r ≡ resource.Local x)) → Agree on s t
    → Alike (Agree more) (bind x w v s) (bind x w v t)
bind_alike on more x w v s t h a = from_one (Agree more) (low v)
    (λ u. Fine (with_bound x (Some (record { form = w; value = u })) s))
    (λ u. Fine (with_bound x (Some (record { form = w; value = u })) t))
    (λ u e. bound_agrees on more s t x (Some (record { form = w; value = u })) h a)

-- what there is of a group they agree on
pub store_same : (on : Resource → Bool) (s t : State) (g : ℕ) → on (resource.Group g) ≡ true → Agree on s t
    → store_of s g ≡ store_of t g
store_same on s t g i a = ap (λ (o : Option Group). there (members o)) (a.groups g i)

member_alike : (on : Resource → Bool) (s t : State) (g n : ℕ) (st : Store) (v : Val) → on (resource.Group g) ≡ true
    → Agree on s t → Alike (Agree on) (with_member s g n st v) (with_member t g n st v)
member_alike on s t g n st (OfInt i) h a = tt
member_alike on s t g n st (OfBool b) h a = tt
member_alike on s t g n st Null h a = tt
member_alike on s t g n st (Owned x) h a = members_keep on s t g (prelude.set st n x) h a
member_alike on s t g n st (Member i) h a = tt

-- A value is written alike to a place that stands in what they agree on.
pub write_alike : (on : Resource → Bool) (s t : State) (b : Base) (fields : List ℕ) (v : Val) → StandsOn on b
    → Agree on s t → Alike (Agree on) (write_in s b fields v) (write_in t b fields v)
write_alike on s t (InLocal x) fields v i a = from_same (Agree on) (there (s.locals x)) (there (t.locals x))
    (λ b. bind x b.form (put_at fields v b.value) s) (λ b. bind x b.form (put_at fields v b.value) t)
    (ap there (a.locals x i))
    (λ b e. bind_alike on on x b.form (put_at fields v b.value) s t (λ r h. inl h) a)
write_alike on s t (InGroup g n) fields v i a = from_same (Agree on) (store_of s g) (store_of t g)
    (rewrite_member s g n fields v) (rewrite_member t g n fields v) (store_same on s t g i a)
    (λ st e. from_one (Agree on) (there (slice_get st n))
    (λ x. low (put_at fields v (Owned x)) >>= with_member s g n st)
    (λ x. low (put_at fields v (Owned x)) >>= with_member t g n st)
    (λ x d. from_one (Agree on) (low (put_at fields v (Owned x))) (with_member s g n st) (with_member t g n st)
    (λ u k. member_alike on s t g n st u i a)))
