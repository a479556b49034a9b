use Rattle.std.proofs.Common.{◌≡◌, ap, sym, ◌∙◌, None, true, rules}
use Rattle.std.proofs.lemmas.Option.{same_Some}
use Rattle.ae_semantics.specs.Values.{is_low, put_at}
use Rattle.ae_semantics.specs.Places.{Fine, Bound, there, with_bound, write_in, ◌>>=◌}
use Rattle.ae_reads.specs.Views.{base_of}
use Rattle.ae_running.specs.Seen.{seen}
use Rattle.ae_stores.specs.Stand.{whole_at, moved_into}
use Rattle.ae_stores.proofs.ChangeLemmas.{some_is, low_has_room}
use Rattle.ae_stores.proofs.WriteLemmas.{write_goes_through}
use Rattle.ae_stores.proofs.moving.move_in.Goals as goal

pub hand_over-requires : goal.hand_over-requires
hand_over-requires c =
    let s = seen c.args.run.now in
    let b = base_of c.args.base in
    let fields = c.args.fields.now in
    let w = some_is (whole_at s b) c.requires.there in
    let l = c.in-Some.ensures in
    let passed : c.stays_low.result ≡ true = search rules in
    let low : is_low (put_at fields l.0.value w.0) ≡ true =
    sym (c.stays_low.ensures w.0 w.1 l.0.value l.2) ∙ passed in
    record {
      room = λ k whole at is.
          low_has_room s b fields k.value w.0 whole w.1
          (ap (λ (x : Bound). is_low (put_at fields x.value w.0)) (same_Some k l.0 (sym at ∙ l.1)) ∙ low) is;
    }

pub returns-clause-changes : goal.returns-clause-changes
returns-clause-changes c =
    let s = seen c.args.run.now in
    let x = c.args.name in
    let b = base_of c.args.base in
    let fields = c.args.fields.now in
    let w = some_is (whole_at s b) c.requires.there in
    let l = c.in-Some.ensures in
    let passed : c.stays_low.result ≡ true = search rules in
    let low : is_low (put_at fields l.0.value w.0) ≡ true =
    sym (c.stays_low.ensures w.0 w.1 l.0.value l.2) ∙ passed in
    let t = write_goes_through s b fields l.0.value w.0 (c.requires.object l.0.value) w.1 low in
    let moved : moved_into s x b fields ≡ Fine (with_bound x None t.0) =
    ap (λ o. there o >>= λ l. write_in s b fields l.value >>= λ u. Fine (with_bound x None u)) l.1
    ∙ ap (λ o. o >>= λ u. Fine (with_bound x None u)) t.1 in
    moved ∙ ap Fine (sym (c.hand_over.ensures.meant (with_bound x None t.0) moved))
