use Rattle.std.proofs.Common.{◌≡◌, ℕ, ◌+◌, List, ◌++◌, length, take, get_or, refl, sym, ap, subst, ◌∙◌, arith, append_assoc, length-append, vec_len, vec_capacity}
use Rattle.std.specs.Prelude.{slice_range}
use Rattle.json.specs.Print.{escape, escape_byte}
use Rattle.shape_json.proofs.Runs.{plain_none, plain_next, escaped_next, front_fits, whole_escaped}
use Rattle.shape_json.proofs.writer.put_escaped.Goals as goal
use Rattle.shape_json.proofs.writer.put_escaped.Goals.{then-not-is_plain_byte, else-not-is_plain_byte}

pub put_run-requires : goal.put_run-requires
put_run-requires c =
    let xs = c.args.text.now in
    let from = c.loop-place.from in
    let place = c.loop-place.place in
    let x = get_or xs place 0 in
    let next = escaped_next xs from place x c.loop-place.invariant.within c.loop-place-test.true refl c.loop-place.invariant.plain in
    omega (arith, c.requires, c.loop-place.invariant.len, c.loop-place.invariant.room, ap length next, front_fits xs (place + 1), length-append (escape (take from xs)) (slice_range xs from place ++ escape_byte x))

pub loop-place-preserved : goal.loop-place-preserved
loop-place-preserved c =
    let xs = c.args.text.now in
    let old = c.args.out.now.items in
    let from = c.loop-place.from in
    let place = c.loop-place.place in
    let x = get_or xs place 0 in
    let inv = c.loop-place.invariant in
    let lt = c.loop-place-test.true in
    elim c.if-not-is_plain_byte.branch [
      | then-not-is_plain_byte w ↦
          let next = escaped_next xs from place x inv.within lt refl inv.plain in
          record {
            within = omega (arith, w.from-is);
            plain = subst (λ (n : ℕ). escape (slice_range xs n (place + 1)) ≡ slice_range xs n (place + 1)) (sym w.from-is) (plain_none xs (place + 1));
            text = ap (λ v. v.items) w.out-is ∙ w.put_run.ensures.text ∙ ap (λ (l : List ℕ). l ++ (slice_range xs from place ++ escape_byte x)) inv.text
                ∙ append_assoc old (escape (take from xs)) (slice_range xs from place ++ escape_byte x) ∙ ap (λ (l : List ℕ). old ++ l) (sym next) ∙ ap (λ (n : ℕ). old ++ escape (take n xs)) (sym w.from-is);
            len = omega (arith, ap (λ v. vec_len v) w.out-is, w.put_run.ensures.len, inv.len, ap length next, length-append (escape (take from xs)) (slice_range xs from place ++ escape_byte x), ap (λ (n : ℕ). length (escape (take n xs))) w.from-is);
            room = omega (arith, ap (λ v. vec_capacity v) w.out-is, w.put_run.ensures.room, inv.room);
          }
      | else-not-is_plain_byte w ↦ record {
        within = omega (arith, w.from-is, inv.within);
        plain = subst (λ (n : ℕ). escape (slice_range xs n (place + 1)) ≡ slice_range xs n (place + 1)) (sym w.from-is) (plain_next xs from place x inv.within lt refl (c.is_plain_byte.ensures w.if-not-is_plain_byte.false) inv.plain);
        text = ap (λ v. v.items) w.out-is ∙ inv.text ∙ ap (λ (n : ℕ). old ++ escape (take n xs)) (sym w.from-is);
        len = omega (arith, ap (λ v. vec_len v) w.out-is, inv.len, ap (λ (n : ℕ). length (escape (take n xs))) w.from-is);
        room = omega (arith, ap (λ v. vec_capacity v) w.out-is, inv.room);
      }
    ]

pub put_plain-requires : goal.put_plain-requires
put_plain-requires c =
    let xs = c.args.text.now in
    let from = c.loop-place.from in
    omega (arith, c.requires, c.loop-place.invariant.len, c.loop-place.invariant.room, ap length (whole_escaped xs from c.loop-place.place (omega (arith, c.loop-place-test.false)) c.loop-place.invariant.plain), length-append (escape (take from xs)) (slice_range xs from (length xs)))

pub returns-clause-text : goal.returns-clause-text
returns-clause-text c =
    let xs = c.args.text.now in
    let from = c.loop-place.from in
    c.put_plain.ensures.text ∙ ap (λ (l : List ℕ). l ++ slice_range xs from (length xs)) c.loop-place.invariant.text ∙ append_assoc c.args.out.now.items (escape (take from xs)) (slice_range xs from (length xs))
    ∙ ap (λ (l : List ℕ). c.args.out.now.items ++ l) (whole_escaped xs from c.loop-place.place (omega (arith, c.loop-place-test.false)) c.loop-place.invariant.plain)

pub returns-clause-len : goal.returns-clause-len
returns-clause-len c =
    let xs = c.args.text.now in
    let from = c.loop-place.from in
    omega (arith, c.put_plain.ensures.len, c.loop-place.invariant.len, ap length (whole_escaped xs from c.loop-place.place (omega (arith, c.loop-place-test.false)) c.loop-place.invariant.plain), length-append (escape (take from xs)) (slice_range xs from (length xs)))
