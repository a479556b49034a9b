-- Trees of a small program that stand for its meaning past what stopped.
use Rattle.ae_rules.specs.Edges.{Direct}
use Rattle.std.proofs.Common.{◌≡◌, inl, inr, refl, sym, subst, arith, ℕ, zero, suc, pos, true, List, [], ◌∷◌, Option}
use Rattle.std.proofs.Common.{None, Some, Contains}
use Rattle.std.specs.Prelude.{Bool, false, nat_eq, if◌then◌else◌, map}
use Rattle.ae_tree.specs.declared.form.Form.TheVariants as f
use Rattle.ae_rules.specs.declared.uses.Resource.TheVariants.{Local}
use Rattle.ae_semantics.specs.Values.{Val, OfInt}
use Rattle.ae_semantics.specs.Places.{Bound}
use Rattle.ae_rules.specs.Uses.{stronger}
use Rattle.ae_semantics.specs.Contexts.{shuts_out}
use Rattle.ae_rules.specs.declared.uses.Mode.TheVariants as mode
use Rattle.ae_semantics.specs.declared.report.Ending.TheVariants.{Trap}
use Rattle.ae_worked.proofs.ProgramWords.{at}
use Rattle.ae_rules.specs.Verdict.{given}
use Rattle.ae_semantics.specs.Meaning.{one, many, below}
use Rattle.ae_semantics.specs.Atom.{part}
use Rattle.ae_semantics.specs.Moments.{Moment, AgreesOnChanged}
use Rattle.ae_semantics.specs.Trails.{Passage, trail}
use Rattle.ae_semantics.specs.Unfolding.{uses_of, IsAfter, StandsFor, part_of_tree, trail_of, IsLeft, halt_place}
use Rattle.ae_semantics.specs.BlockTrees.{BlockTree, Begun, NoMore, fresh, results, halted, left_out, Then, Halted}
use Rattle.ae_semantics.specs.BlockTrees.{Finished, LeftOut, Waiting}
use Rattle.ae_semantics.specs.Regions.{Within}
use Rattle.ae_semantics.specs.RowTrees.{nothing_gained}
use Rattle.ae_worked.proofs.ReportWords.{fork_of}
use Rattle.ae_worked.proofs.RunExamples.{trap_beside_a_print}

-- P holds of each thing of a list
abbrev pub Every : {A : Type 0} → (A → Type 0) → List A → Type 0
Every P [] = Unit {0}
Every P (x ∷ xs) = P x × Every P xs

pub every : {A : Type 0} (P : A → Type 0) (xs : List A) → Every P xs → (x : A) → Contains xs x → P x
every P [] h x (k, l, e) = absurd (omega (arith, l))
every P (y ∷ ys) h x (zero, l, e) = subst P e h.0
every P (y ∷ ys) h x (suc k, l, e) = every P ys h.1 x (k, omega (arith, l), e)

abbrev pub no_values : Moment
no_values = record { state = record { locals = λ x. None; groups = λ g. None; result = None }; log = []; cell = None }

-- all statements wait
abbrev begun : BlockTree
begun = given (fresh trap_beside_a_print []) (Begun no_values NoMore) (λ tree. tree)

fresh-stands : StandsFor trap_beside_a_print [] 100 begun
unfolding part trail one many below
fresh-stands = record {
  each_left = every _ [] tt;
  each_turn = every _ [] tt;
  each_between = every _ [] tt;
  first = (
    _,
    refl,
    (
      record {
        locals = λ x. refl;
        groups = λ g. refl;
        result = refl;
        log = refl;
        cell = refl;
      },
      refl,
    ),
  );
  each_unfolded = every _ [] tt;
  each_entered = every _ [] tt;
  each_halt = every _ [] tt;
  each_left_out = every _ [] tt;
  events_differ = tt;
  cells_differ = tt;
  each_event = every _ [] tt;
  each_cell = every _ [] tt;
  all_others = every _ (part_of_tree trap_beside_a_print [] 100 begun).ran (
    inr (inl (Within (0 ∷ []), (0, omega arith, refl), refl)),
    (
      inr (inl (Within (1 ∷ []), (1, omega arith, refl), refl)),
      (
        inr (inl (Within (3 ∷ []), (3, omega arith, refl), refl)),
        tt,
      ),
    ),
  );
}

abbrev two : Bound
two = record { form = f.Int; value = OfInt (pos 2) }

abbrev pub two_in_b : Moment
two_in_b = record {
  state = record { locals = λ x. if nat_eq 4 x then Some two else None; groups = λ g. None; result = None };
  log = [];
  cell = None;
}

-- The first statement has ended, the second has left its local, the third is left out, and the print waits.
abbrev halfway : BlockTree
halfway = Begun no_values
    (Then (Halted (Trap 2 (at 2 1)) nothing_gained)
    (Then (Finished two_in_b nothing_gained)
    (Then LeftOut
    (Then Waiting NoMore))))

abbrev changes_a : ℕ → Bool
changes_a x = shuts_out (stronger (if nat_eq 3 x then Some mode.Write else None) None)

not_there : (a b : Bool) (v : Option Bound) → (if a then v else None) ≡ (if a then v else (if b then None else None))
not_there a true v = refl
not_there a false v = refl

second-left : IsLeft trap_beside_a_print (trail_of trap_beside_a_print [] 100 halfway)
    (record { path = 1 ∷ []; left = two_in_b })
unfolding part trail one many below
second-left = (
  _,
  (0, omega arith, refl),
  refl,
  record {
    locals = λ x h. not_there (nat_eq 4 x) (changes_a x)
        (Some two);
    groups = λ g h. refl;
    result = refl;
    log = λ h. refl;
    cell = λ h. refl;
  },
)

first-before-third : IsAfter trap_beside_a_print (map halt_place (halted halfway)) (2 ∷ [])
first-before-third = (
  Within (0 ∷ []),
  (0, omega arith, refl),
  record {
    fork = fork_of trap_beside_a_print (0 ∷ []) (2 ∷ []);
    parts = refl;
    order = inr (Direct 0 2 (record {
      before = omega arith;
      on = Local 3;
      conflict = refl;
      clear = elim [
        | zero ↦ (λ l m. absurd (omega (arith, l)))
        | suc zero ↦ (λ l m. tt)
        | suc (suc k) ↦ (λ l m. absurd (omega (arith, m)))
      ];
    }));
  },
)

halfway-stands : StandsFor trap_beside_a_print [] 100 halfway
unfolding part trail one many below
halfway-stands = record {
  each_left = every _ (results halfway) (((at 3 1, (1, omega arith, refl)), second-left), tt);
  each_turn = every _ [] tt;
  each_between = every _ [] tt;
  first = (
    _,
    refl,
    (
      record {
        locals = λ x. refl;
        groups = λ g. refl;
        result = refl;
        log = refl;
        cell = refl;
      },
      refl,
    ),
  );
  each_unfolded = every _ [] tt;
  each_entered = every _ [] tt;
  each_halt = every _ (halted halfway) (refl, tt);
  each_left_out = every _ (left_out halfway) (first-before-third, tt);
  events_differ = tt;
  cells_differ = tt;
  each_event = every _ [] tt;
  each_cell = every _ [] tt;
  all_others = every _ (part_of_tree trap_beside_a_print [] 100 halfway).ran (
    inr (inl (Within (0 ∷ []), (1, omega arith, refl), refl)),
    (
      inl (Within (1 ∷ []), (0, omega arith, refl), refl),
      (
        inr (inl (Within (3 ∷ []), (0, omega arith, refl), refl)),
        tt,
      ),
    ),
  );
}

-- A tree with another value in that local does not stand for it.
abbrev three_in_b : Moment
three_in_b = record {
  state = record {
    locals = λ x. Some (record { form = f.Int; value = OfInt (pos 3) });
    groups = λ g. None;
    result = None;
  };
  log = [];
  cell = None;
}

abbrev int_in : Val → ℕ
int_in (OfInt (pos n)) = n
int_in _ = 0

abbrev number_in : Option Bound → ℕ
number_in (Some b) = int_in b.value
number_in None = 0

abbrev head_of : List ℕ → ℕ
head_of [] = 0
head_of (i ∷ q) = i

abbrev HasThree : Passage → Type 0
HasThree x = AgreesOnChanged (uses_of trap_beside_a_print x) three_in_b x.moment

not-left : IsLeft trap_beside_a_print (trail trap_beside_a_print [] 100 (λ q. None))
    (record { path = 1 ∷ []; left = three_in_b }) → ⊥
unfolding part trail one many below
not-left (x, (zero, l, e), q, h) =
    absurd (omega (arith, subst (λ b. number_in b ≡ 3) ((subst HasThree (sym e) h).locals 4 refl) refl))
not-left (x, (suc zero, l, e), q, h) =
    absurd (omega (arith, subst (λ r. head_of r ≡ 3) (subst (λ (y : Passage). y.here.path ≡ 1 ∷ []) (sym e) q) refl))
not-left (x, (suc (suc k), l, e), q, h) = absurd (omega (arith, l))
