-- Facts on calls that are entered, wherever they stand.
use Rattle.std.proofs.Common.{◌≡◌, List, refl}
use Rattle.ae_tree.specs.Plain.{Code, Invocation}
use Rattle.ae_rules.specs.Calls.{Callee, givens}
use Rattle.ae_semantics.specs.Places as places
use Rattle.ae_semantics.specs.Places.{Outcome, Fine, ◌>>=◌, State}
use Rattle.ae_semantics.specs.Calls.{Argument, called_method, each_argument, frame, group_given}
use Rattle.ae_frames.specs.Entries.{EnteredCall, entered_call, entered, frame_of, CallsEnterAlike}

-- each call is entered so, wherever it stands
pub entered_anywhere : CallsEnterAlike
entered_anywhere p here i s = by_callee (called_method p s i)
  where
    by_arguments : (c : Callee) (o : Outcome (List Argument))
        → (o >>= λ xs. Fine (frame p here s c (group_given s c i) xs))
        ≡ ((o >>= λ xs. Fine (entered_call p s c (group_given s c i) xs)) >>= λ x. Fine (frame_of p here x))
    by_arguments c (Fine xs) = refl
    by_arguments c (places.Traps code) = refl
    by_arguments c places.Lacks = refl

    by_callee : (o : Outcome Callee)
        → (o >>= λ c. each_argument p s (givens i) >>= λ xs. Fine (frame p here s c (group_given s c i) xs))
        ≡ ((o >>= λ c. each_argument p s (givens i) >>= λ xs. Fine (entered_call p s c (group_given s c i) xs))
        >>= λ x. Fine (frame_of p here x))
    by_callee (Fine c) = by_arguments c (each_argument p s (givens i))
    by_callee (places.Traps code) = refl
    by_callee places.Lacks = refl

-- a call that was entered was so with a method and arguments
pub record WasEntered (p : Code) (i : Invocation) (s : State) (x : EnteredCall) : Type 0 where
  pub callee : Callee
  pub arguments : List Argument
  pub is : entered_call p s callee (group_given s callee i) arguments ≡ x

same_entry : (x y : EnteredCall) → Fine x ≡ Fine y → x ≡ y
same_entry x y h = cc

pub was_entered : (p : Code) (i : Invocation) (s : State) (x : EnteredCall) → entered p i s ≡ Fine x → WasEntered p i s x
was_entered p i s x h = by_callee (called_method p s i) h
  where
    by_arguments : (c : Callee) (o : Outcome (List Argument))
        → (o >>= λ xs. Fine (entered_call p s c (group_given s c i) xs)) ≡ Fine x → WasEntered p i s x
    by_arguments c (Fine xs) q = record {
      callee = c;
      arguments = xs;
      is = same_entry (entered_call p s c (group_given s c i) xs) x q;
    }
    by_arguments c (places.Traps code) q = absurd (cc)
    by_arguments c places.Lacks q = absurd (cc)

    by_callee : (o : Outcome Callee)
        → (o >>= λ c. each_argument p s (givens i) >>= λ xs. Fine (entered_call p s c (group_given s c i) xs)) ≡ Fine x
        → WasEntered p i s x
    by_callee (Fine c) q = by_arguments c (each_argument p s (givens i)) q
    by_callee (places.Traps code) q = absurd (cc)
    by_callee places.Lacks q = absurd (cc)
