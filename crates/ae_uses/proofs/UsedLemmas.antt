-- What is used too, step by step.
use Rattle.std.proofs.Common.{◌≡◌, ℕ, Bool, true, false, ◌||◌, nat_eq, if◌then◌else◌, List, [], ◌∷◌, ◌++◌, Option, None}
use Rattle.std.proofs.Common.{Some, refl, sym, ap, ◌∙◌}
use Rattle.std.proofs.Math.Bool.{or-false}
use Rattle.std.proofs.lemmas.List.{append-nil}
use Rattle.std.proofs.lemmas.List.Folds.{list_any-append}
use Rattle.ae_rules.specs.declared.uses.Resource.{Resource}
use Rattle.ae_rules.specs.declared.uses.Resource.TheVariants as resource
use Rattle.ae_rules.specs.declared.uses.Mode.{Mode}
use Rattle.ae_rules.specs.declared.uses.Mode.TheVariants as mode
use Rattle.ae_rules.specs.Lookups.{has_name}
use Rattle.ae_rules.specs.Edges.{Uses, is_strong}
use Rattle.ae_rules.specs.Uses.{stronger, nothing, read_use, write_use, together, whole_group, ◌∪◌}
use Rattle.ae_uses.specs.declared.used.Used.{Used}
use Rattle.ae_uses.specs.Used.{Adds, Owes, mode_of, used_as}

-- ---- the stronger of modes

-- nothing is no stronger
pub none_is_no_stronger : (o : Option Mode) → stronger o None ≡ o
none_is_no_stronger None = refl
none_is_no_stronger (Some m) = refl

strongest_of_three : (m n l : Mode)
    → (if is_strong (if is_strong m then m else n) then (if is_strong m then m else n) else l)
    ≡ (if is_strong m then m else (if is_strong n then n else l))
strongest_of_three mode.Read n l = refl
strongest_of_three mode.Write n l = refl
strongest_of_three mode.GroupShared n l = refl
strongest_of_three mode.GroupWhole n l = refl

-- the strongest of three, however they are put together
pub stronger_in_turn : (o q s : Option Mode) → stronger (stronger o q) s ≡ stronger o (stronger q s)
stronger_in_turn None q s = refl
stronger_in_turn (Some m) None s = refl
stronger_in_turn (Some m) (Some n) None = refl
stronger_in_turn (Some m) (Some n) (Some l) = ap Some (strongest_of_three m n l)

-- ---- one after the other

-- nothing more is used
pub adds_nothing_more : (u : Used) → Adds u nothing u
adds_nothing_more u = record { at = λ r. sym (none_is_no_stronger (used_as u r)) }

-- the one and then the other
pub adds_one_then_other : (u v w : Used) (a b : Uses) → Adds u a v → Adds v b w → Adds u (a ∪ b) w
adds_one_then_other u v w a b h k = record {
  at = λ r. k.at r ∙ ap (λ (o : Option Mode). stronger o (b r)) (h.at r)
      ∙ stronger_in_turn (used_as u r) (a r) (b r);
}

-- what is used where nothing was
pub all_from_nothing : (u v : Used) (a : Uses) → used_as u ≡ nothing → Adds u a v → (r : Resource) → used_as v r ≡ a r
all_from_nothing u v a e h r = h.at r ∙ ap (λ (f : Uses). stronger (f r) (a r)) e

-- ---- one of many after the other

-- one thing less is to be used
pub owes_one_less : (u v w : Used) (whole a rest : Uses) → Owes u whole v (a ∪ rest) → Adds v a w → Owes u whole w rest
owes_one_less u v w whole a rest h k = record {
  at = λ r. h.at r ∙ sym (stronger_in_turn (used_as v r) (a r) (rest r))
      ∙ ap (λ (o : Option Mode). stronger o (rest r)) (sym (k.at r));
}

-- nothing more is to be used
pub owes_nothing_more : (u v : Used) (whole : Uses) → Owes u whole v nothing → Adds u whole v
owes_nothing_more u v whole h = record { at = λ r. sym (h.at r ∙ none_is_no_stronger (used_as v r)) }

-- ---- lists behind lists

-- the mode of a name, by whether it is among those of the strong mode and among those of the weak mode
abbrev pub chosen : Mode → Mode → Bool → Bool → Option Mode
chosen weak strong s w = if s then Some strong else (if w then Some weak else None)

-- the same tests choose the same mode
pub same_tests_choose_alike : (weak strong : Mode) (s t w v : Bool) → s ≡ t → w ≡ v
    → chosen weak strong s w ≡ chosen weak strong t v
same_tests_choose_alike weak strong s t w v e f =
    ap (λ (b : Bool). chosen weak strong b w) e ∙ ap (λ (b : Bool). chosen weak strong t b) f

-- a mode beside another one: the first if it is strong, and else the second
strong_is_first : (m n : Mode) (b : Bool) → is_strong m ≡ b → stronger (Some m) (Some n) ≡ Some (if b then m else n)
strong_is_first m n b e = ap (λ (c : Bool). Some (if c then m else n)) e

-- a name that is among these or those has the stronger of its two modes
both_choose_stronger : (weak strong : Mode) → is_strong weak ≡ false → is_strong strong ≡ true → (s w t v : Bool)
    → chosen weak strong (s || t) (w || v) ≡ stronger (chosen weak strong s w) (chosen weak strong t v)
both_choose_stronger weak strong e f true w true v = sym (strong_is_first strong strong true f)
both_choose_stronger weak strong e f true w false true = sym (strong_is_first strong weak true f)
both_choose_stronger weak strong e f true w false false = refl
both_choose_stronger weak strong e f false true true v = sym (strong_is_first weak strong false e)
both_choose_stronger weak strong e f false false true v = refl
both_choose_stronger weak strong e f false true false true = sym (strong_is_first weak weak false e)
both_choose_stronger weak strong e f false true false false = refl
both_choose_stronger weak strong e f false false false true = refl
both_choose_stronger weak strong e f false false false false = refl

-- two lists behind two others
stronger_of_both_lists : (weak strong : Mode) → is_strong weak ≡ false → is_strong strong ≡ true
    → (xs ys zs ws a b : List ℕ) → xs ≡ ys ++ a → zs ≡ ws ++ b → (x : ℕ)
    → mode_of weak strong xs zs x ≡ stronger (mode_of weak strong ys ws x) (mode_of weak strong a b x)
stronger_of_both_lists weak strong e f xs ys zs ws a b g h x =
    same_tests_choose_alike weak strong _ _ _ _ (has_both zs ws b h) (has_both xs ys a g)
    ∙ both_choose_stronger weak strong e f (has_name ws x) (has_name ys x) (has_name b x) (has_name a x) where
      has_both : (ls ms ns : List ℕ) → ls ≡ ms ++ ns → has_name ls x ≡ (has_name ms x || has_name ns x)
      has_both ls ms ns k = ap (λ (l : List ℕ). has_name l x) k ∙ list_any-append (λ y. nat_eq y x) ms ns

-- what four lists of names say
abbrev pub listed : List ℕ → List ℕ → List ℕ → List ℕ → Uses
listed a b c d (resource.Local x) = mode_of mode.Read mode.Write a b x
listed a b c d (resource.Group g) = mode_of mode.GroupShared mode.GroupWhole c d g

-- lists behind lists are used too
pub lists_more : (u v : Used) (a b c d : List ℕ) (w : Uses) → v.read.items ≡ u.read.items ++ a
    → v.written.items ≡ u.written.items ++ b → v.together.items ≡ u.together.items ++ c
    → v.whole.items ≡ u.whole.items ++ d → ((r : Resource) → listed a b c d r ≡ w r) → Adds u w v
lists_more u v a b c d w e f g h k = record { at = λ r. is r ∙ ap (stronger (used_as u r)) (k r) } where
  is : (r : Resource) → used_as v r ≡ stronger (used_as u r) (listed a b c d r)
  is (resource.Local x) = stronger_of_both_lists mode.Read mode.Write refl refl _ _ _ _ a b e f x
  is (resource.Group x) = stronger_of_both_lists mode.GroupShared mode.GroupWhole refl refl _ _ _ _ c d g h x

-- ---- one name more

-- a list that stays has nothing behind it
no_name_more : (xs ys : List ℕ) → xs ≡ ys → xs ≡ ys ++ []
no_name_more xs ys e = e ∙ sym (append-nil ys)

-- one name alone has its mode
one_name_alone : (m : Mode) (b : Bool) → (if b || false then Some m else None) ≡ (if b then Some m else None)
one_name_alone m b = ap (λ (c : Bool). if c then Some m else None) (or-false b)

-- a local more is read
pub one_read_more : (u v : Used) (x : ℕ) → v.read.items ≡ u.read.items ++ x ∷ [] → v.written.items ≡ u.written.items
    → v.together.items ≡ u.together.items → v.whole.items ≡ u.whole.items → Adds u (read_use x) v
one_read_more u v x e f g h =
    lists_more u v (x ∷ []) [] [] [] (read_use x) e (no_name_more _ _ f) (no_name_more _ _ g) (no_name_more _ _ h)
    is where
      is : (r : Resource) → listed (x ∷ []) [] [] [] r ≡ read_use x r
      is (resource.Local y) = one_name_alone mode.Read (nat_eq x y)
      is (resource.Group y) = refl

-- a local more is written
pub one_written_more : (u v : Used) (x : ℕ) → v.read.items ≡ u.read.items → v.written.items ≡ u.written.items ++ x ∷ []
    → v.together.items ≡ u.together.items → v.whole.items ≡ u.whole.items → Adds u (write_use x) v
one_written_more u v x e f g h =
    lists_more u v [] (x ∷ []) [] [] (write_use x) (no_name_more _ _ e) f (no_name_more _ _ g) (no_name_more _ _ h)
    is where
      is : (r : Resource) → listed [] (x ∷ []) [] [] r ≡ write_use x r
      is (resource.Local y) = one_name_alone mode.Write (nat_eq x y)
      is (resource.Group y) = refl

-- a group more is used together with others
pub one_together_more : (u v : Used) (x : ℕ) → v.read.items ≡ u.read.items → v.written.items ≡ u.written.items
    → v.together.items ≡ u.together.items ++ x ∷ [] → v.whole.items ≡ u.whole.items → Adds u (together x) v
one_together_more u v x e f g h =
    lists_more u v [] [] (x ∷ []) [] (together x) (no_name_more _ _ e) (no_name_more _ _ f) g (no_name_more _ _ h)
    is where
      is : (r : Resource) → listed [] [] (x ∷ []) [] r ≡ together x r
      is (resource.Local y) = refl
      is (resource.Group y) = one_name_alone mode.GroupShared (nat_eq x y)

-- a group more is used as a whole
pub one_whole_more : (u v : Used) (x : ℕ) → v.read.items ≡ u.read.items → v.written.items ≡ u.written.items
    → v.together.items ≡ u.together.items → v.whole.items ≡ u.whole.items ++ x ∷ [] → Adds u (whole_group x) v
one_whole_more u v x e f g h =
    lists_more u v [] [] [] (x ∷ []) (whole_group x) (no_name_more _ _ e) (no_name_more _ _ f) (no_name_more _ _ g) h
    is where
      is : (r : Resource) → listed [] [] [] (x ∷ []) r ≡ whole_group x r
      is (resource.Local y) = refl
      is (resource.Group y) = one_name_alone mode.GroupWhole (nat_eq x y)

pub ruleset one_more = (adds_nothing_more, one_read_more, one_written_more, one_together_more, one_whole_more)

pub ruleset adds = (adds_nothing_more, adds_one_then_other)
