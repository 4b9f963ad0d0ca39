-- Lists of items, and bytes with a length: both laws.
use Rattle.std.proofs.Common.{◌≡◌, ℕ, zero, suc, ◌-◌, ◌^◌, ◌<◌, ◌≤◌, false, cond, ltb, List, [], ◌∷◌, ◌++◌, length, take, drop, replicate, Ok, Err, refl, sym, ap, subst, ◌∙◌, append_assoc, arith, inl, inr}
use Rattle.std.specs.List.{flat_map, AllByRecursion}
use Rattle.std.specs.Int.{Width, w16, w32, byte_len, from_be_bytes, to_be_bytes}
use Rattle.std.proofs.lemmas.Bool.{ltb-true, ltb-false, le-ltb}
use Rattle.std.proofs.lemmas.List.{append-nil, nil_from_length, length-append, length-replicate, length-take, take-append-drop, take_at, drop_at}
use Rattle.std.proofs.lemmas.List.Concat.{flat_map-cons}
use Rattle.byte_format.specs.Format.{Read, ◌>>=◌, mapped, Format, number_at, number, chunk, chunk_at, ◌&◌, times, counted, long_counted, counted_past}
use Rattle.byte_format.proofs.Codec.{IsBytes, IsBytes-take, IsBytes-drop, IsCodec, Takes, Takes-then, IsWide, wide16, wide32, bind_ok, guard_ok, ok_is, number_takes, number_again}
use Rattle.byte_format.proofs.Places.{Stops, IsPlaced, at_end, bind_err, guard_err, number_stops, renamed, unmapped, mapped_same, pair_placed, IsBytes-append, IsBytes-zeros}

-- ---- the same format, spelled and read alike

pub record IsAlike {A : Type 0} (f g : Format A) : Type 0 where
  pub spell : (x : A) → g.spell x ≡ f.spell x
  pub read : (bytes : List ℕ) → g.read bytes ≡ f.read bytes
  pub to : (x : A) → f.Fits x → g.Fits x
  pub from : (x : A) → g.Fits x → f.Fits x

pub alike_is : {A : Type 0} {f g : Format A} → IsAlike f g → IsCodec f → IsCodec g
alike_is {f = f} {g = g} s p = record {
  takes = λ bytes x rest h e. let t = p.takes bytes x rest h (sym (s.read bytes) ∙ e) in (subst (λ (bs : List ℕ). Takes bytes bs rest) (sym (s.spell x)) t.0, s.to x t.1);
  again = λ x rest h. s.read (g.spell x ++ rest) ∙ ap (λ (bs : List ℕ). f.read (bs ++ rest)) (s.spell x) ∙ p.again x rest (s.from x h);
}

pub alike_placed : {A : Type 0} {f g : Format A} → IsAlike f g → IsPlaced f → IsPlaced g
alike_placed {f = f} {g = g} s p = record {
  codec = alike_is s p.codec;
  some = p.some;
  some_fits = s.to p.some p.some_fits;
  stops = λ bytes left h e.
      renamed f g (λ x. x) bytes left s.to s.spell (λ rest. s.read rest ∙ sym (mapped_same (f.read rest))) (p.stops bytes left h (sym (s.read bytes) ∙ e));
}

-- ---- a size, and what has that size

abbrev sized : {A : Type 0} → Width → ℕ → (ℕ → Format A) → (A → ℕ) → Format A
sized w limit F size = record {
  spell = λ x. to_be_bytes w (size x) ++ (F (size x)).spell x;
  read = λ bytes. number_at w bytes >>= λ n. (F n.0).read n.1;
  Fits = λ x. (size x < limit) × (F (size x)).Fits x;
}

sized_is : {A : Type 0} {w : Width} {limit : ℕ} {F : ℕ → Format A} {size : A → ℕ} → IsWide w limit → ((n : ℕ) → IsCodec (F n)) → ((n : ℕ) (x : A) → (F n).Fits x → size x ≡ n) → IsCodec (sized w limit F size)
sized_is {A} {w} {limit} {F} {size} wide p known = record {
  takes = λ bytes x rest h e.
      let a = bind_ok (number_at w bytes) (λ n. (F n.0).read n.1) (x, rest) e in
      let t = number_takes w limit wide bytes a.0.0 a.0.1 h a.1 in
      let u = (p a.0.0).takes a.0.1 x rest t.0.in_range a.2 in
      let both = Takes-then bytes (to_be_bytes w a.0.0) a.0.1 ((F a.0.0).spell x) rest t.0 u.0 in
      subst (λ (k : ℕ). Takes bytes (to_be_bytes w k ++ (F k).spell x) rest × ((k < limit) × (F k).Fits x)) (sym (known a.0.0 x u.1)) (both, (t.1, u.1));
  again = λ x rest h.
      ap (λ (bytes : List ℕ). number_at w bytes >>= λ n. (F n.0).read n.1) (append_assoc (to_be_bytes w (size x)) ((F (size x)).spell x) rest)
      ∙ rw (number_again w limit wide (size x) ((F (size x)).spell x ++ rest) h.0) ((p (size x)).again x rest h.1);
}

-- it stopped inside the size
sized_number : {A : Type 0} (w : Width) (limit : ℕ) (F : ℕ → Format A) (size : A → ℕ) → ((n : ℕ) → IsPlaced (F n)) → ((n : ℕ) (x : A) → (F n).Fits x → size x ≡ n) → (bytes : List ℕ) (left : ℕ)
    → Stops (number w limit) bytes left → 0 ≡ left → Stops (sized w limit F size) bytes left
sized_number w limit F size p known bytes left s z =
    let q = p s.value in
    let is : size q.some ≡ s.value = known s.value q.some q.some_fits in
    let text : List ℕ = (F s.value).spell q.some in
    let nothing_left : s.wrong ≡ [] = nil_from_length s.wrong (omega (arith, s.len)) in
    let good : bytes ≡ s.good = s.parts ∙ ap (λ (bs : List ℕ). s.good ++ bs) nothing_left ∙ append-nil s.good in
    at_end (sized w limit F size) bytes left q.some (s.more ++ text) z
    (subst (λ (k : ℕ). (k < limit) × (F k).Fits q.some) (sym is) (s.fits, q.some_fits))
    (ap (λ (k : ℕ). to_be_bytes w k ++ (F k).spell q.some) is ∙ ap (λ (bs : List ℕ). bs ++ text) s.begins ∙ append_assoc s.good s.more text ∙ ap (λ (bs : List ℕ). bs ++ (s.more ++ text)) (sym good))

-- it stopped after the size
sized_rest : {A : Type 0} (w : Width) (limit : ℕ) (F : ℕ → Format A) (size : A → ℕ) → IsWide w limit → ((n : ℕ) (x : A) → (F n).Fits x → size x ≡ n) → (bytes : List ℕ) (left n : ℕ) (rest : List ℕ)
    → Takes bytes (to_be_bytes w n) rest → n < limit → Stops (F n) rest left → Stops (sized w limit F size) bytes left
sized_rest w limit F size wide known bytes left n rest t lt s =
    let is : size s.value ≡ n = known n s.value s.fits in
    record {
      good = to_be_bytes w n ++ s.good;
      wrong = s.wrong;
      parts = t.parts ∙ ap (λ (bs : List ℕ). to_be_bytes w n ++ bs) s.parts ∙ sym (append_assoc (to_be_bytes w n) s.good s.wrong);
      len = s.len;
      value = s.value;
      more = s.more;
      fits = subst (λ (k : ℕ). (k < limit) × (F k).Fits s.value) (sym is) (lt, s.fits);
      begins = ap (λ (k : ℕ). to_be_bytes w k ++ (F k).spell s.value) is ∙ ap (λ (bs : List ℕ). to_be_bytes w n ++ bs) s.begins ∙ sym (append_assoc (to_be_bytes w n) s.good s.more);
      fails = λ b bs h tail. ap (sized w limit F size).read (append_assoc (to_be_bytes w n) s.good (b ∷ tail)) ∙ rw (number_again w limit wide n (s.good ++ b ∷ tail) lt) (s.fails b bs h tail);
    }

number_end : (w : Width) (bytes : List ℕ) (left : ℕ) → number_at w bytes ≡ Err left → 0 ≡ left
number_end w bytes left e = (guard_err (ltb (length bytes) (byte_len w)) 0 (from_be_bytes w (take (byte_len w) bytes), drop (byte_len w) bytes) left e).1

sized_placed : {A : Type 0} {w : Width} {limit : ℕ} {F : ℕ → Format A} {size : A → ℕ} → IsWide w limit → ((n : ℕ) → IsPlaced (F n)) → ((n : ℕ) (x : A) → (F n).Fits x → size x ≡ n) → 0 < limit
    → IsPlaced (sized w limit F size)
sized_placed {A} {w} {limit} {F} {size} wide p known some = record {
  codec = sized_is wide (λ n. (p n).codec) known;
  some = (p 0).some;
  some_fits = subst (λ (k : ℕ). (k < limit) × (F k).Fits (p 0).some) (sym (known 0 (p 0).some (p 0).some_fits)) (some, (p 0).some_fits);
  stops = λ bytes left h e.
      elim (bind_err (number_at w bytes) (λ n. (F n.0).read n.1) left e) [
        | inl first ↦ sized_number w limit F size p known bytes left (number_stops w limit wide bytes left h first) (number_end w bytes left first)
        | inr a ↦
            let t = number_takes w limit wide bytes a.0.0 a.0.1 h a.1 in
            sized_rest w limit F size wide known bytes left a.0.0 a.0.1 t.0 t.1 ((p a.0.0).stops a.0.1 left t.0.in_range a.2)
      ];
}

-- ---- a length, and that many bytes

raw_at : ℕ → List ℕ → Read (List ℕ)
raw_at n bytes = cond (ltb (length bytes) n) (Err 0) (Ok (take n bytes, drop n bytes))

abbrev raw : ℕ → Format (List ℕ)
raw n = record { spell = λ text. text; read = raw_at n; Fits = λ text. (length text ≡ n) × IsBytes text }

raw_takes : (n : ℕ) (bytes text rest : List ℕ) → IsBytes bytes → raw_at n bytes ≡ Ok (text, rest) → Takes bytes text rest × (length text ≡ n) × IsBytes text
unfolding raw_at
raw_takes n bytes text rest h e =
    let g = guard_ok (ltb (length bytes) n) 0 (take n bytes, drop n bytes) (text, rest) e in
    let long : n ≤ length bytes = ltb-false _ _ g.0 in
    subst (λ (p : List ℕ × List ℕ). Takes bytes p.0 p.1 × (length p.0 ≡ n) × IsBytes p.0) g.1
    (record { parts = sym (take-append-drop n bytes); in_range = IsBytes-drop n bytes h }, omega (arith, length-take n bytes), IsBytes-take n bytes h)

raw_again : (n : ℕ) (text rest : List ℕ) → length text ≡ n → raw_at n (text ++ rest) ≡ Ok (text, rest)
unfolding raw_at
raw_again n text rest h =
    let long : ltb (length (text ++ rest)) n ≡ false = le-ltb _ _ (omega (arith, h, length-append text rest)) in
    rw (long, take_at text rest n h, drop_at text rest n h) refl

raw_is : (n : ℕ) → IsCodec (raw n)
raw_is n = record {
  takes = λ bytes text rest h e. let t = raw_takes n bytes text rest h e in (t.0, (t.1, t.2));
  again = λ text rest h. raw_again n text rest h.0;
}

raw_stops : (n : ℕ) (bytes : List ℕ) (left : ℕ) → IsBytes bytes → raw_at n bytes ≡ Err left → Stops (raw n) bytes left
unfolding raw_at
raw_stops n bytes left h e =
    let g = guard_err (ltb (length bytes) n) 0 (take n bytes, drop n bytes) left e in
    let short : length bytes < n = ltb-true _ _ g.0 in
    let zeros : List ℕ = replicate (n - length bytes) 0 in
    at_end (raw n) bytes left (bytes ++ zeros) zeros g.1
    (omega (arith, length-append bytes zeros, length-replicate {A = ℕ} (n - length bytes) 0), IsBytes-append bytes zeros h (IsBytes-zeros (n - length bytes))) refl

raw_placed : (n : ℕ) → IsPlaced (raw n)
raw_placed n = record {
  codec = raw_is n;
  some = replicate n 0;
  some_fits = (length-replicate {A = ℕ} n 0, IsBytes-zeros n);
  stops = raw_stops n;
}

chunk_alike : IsAlike (sized w32 (2 ^ 32) raw length) chunk
unfolding chunk_at raw_at
chunk_alike = record { spell = λ x. refl; read = λ bytes. refl; to = λ x h. (h.0, h.1.1); from = λ x h. (h.0, (refl, h.1)) }

pub chunk_placed : IsPlaced chunk
chunk_placed = alike_placed chunk_alike (sized_placed wide32 raw_placed (λ n text h. h.0) (omega arith))

-- ---- that many items

times_takes : {A : Type 0} {f : Format A} → IsCodec f → (n : ℕ) (bytes : List ℕ) (xs : List A) (rest : List ℕ) → IsBytes bytes → times f.read n bytes ≡ Ok (xs, rest)
    → Takes bytes (flat_map f.spell xs) rest × (length xs ≡ n) × AllByRecursion f.Fits xs
unfolding times
times_takes {A} {f} p zero bytes xs rest fits e =
    subst (λ (y : List A × List ℕ). Takes bytes (flat_map f.spell y.0) y.1 × (length y.0 ≡ 0) × AllByRecursion f.Fits y.0) (ok_is ([], bytes) (xs, rest) e) (record { parts = refl; in_range = fits }, refl, tt)
times_takes {A} {f} p (suc n) bytes xs rest fits e =
    let a = bind_ok (f.read bytes) (λ first. times f.read n first.1 >>= λ others. Ok (first.0 ∷ others.0, others.1)) (xs, rest) e in
    let b = bind_ok (times f.read n a.0.1) (λ others. Ok (a.0.0 ∷ others.0, others.1)) (xs, rest) a.2 in
    let t = p.takes bytes a.0.0 a.0.1 fits a.1 in
    let u = times_takes p n a.0.1 b.0.0 b.0.1 t.0.in_range b.1 in
    let both = Takes-then bytes (f.spell a.0.0) a.0.1 (flat_map f.spell b.0.0) b.0.1 t.0 u.0 in
    subst (λ (y : List A × List ℕ). Takes bytes (flat_map f.spell y.0) y.1 × (length y.0 ≡ suc n) × AllByRecursion f.Fits y.0) (ok_is (a.0.0 ∷ b.0.0, b.0.1) (xs, rest) b.2)
    (rw flat_map-cons both, ap suc u.1, (t.1, u.2))

times_again : {A : Type 0} {f : Format A} → IsCodec f → (xs : List A) (rest : List ℕ) → AllByRecursion f.Fits xs → times f.read (length xs) (flat_map f.spell xs ++ rest) ≡ Ok (xs, rest)
unfolding times
times_again p [] rest h = refl
times_again {f = f} p (x ∷ xs) rest h =
    let regrouped : flat_map f.spell (x ∷ xs) ++ rest ≡ f.spell x ++ (flat_map f.spell xs ++ rest) = ap (λ (bs : List ℕ). bs ++ rest) (flat_map-cons f.spell x xs) ∙ append_assoc (f.spell x) (flat_map f.spell xs) rest in
    ap (times f.read (suc (length xs))) regrouped ∙ rw (p.again x (flat_map f.spell xs ++ rest) h.0, times_again p xs rest h.1) refl

abbrev many : {A : Type 0} → ℕ → Format A → Format (List A)
many n f = record { spell = flat_map f.spell; read = times f.read n; Fits = λ xs. (length xs ≡ n) × AllByRecursion f.Fits xs }

abbrev cons_of : {A : Type 0} → A × List A → List A
cons_of x = x.0 ∷ x.1

many_inner : {A : Type 0} (x : A × List ℕ) (r : Read (List A)) → (r >>= λ others. Ok (x.0 ∷ others.0, others.1)) ≡ mapped cons_of (r >>= λ b. Ok ((x.0, b.0), b.1))
many_inner x (Ok y) = refl
many_inner x (Err d) = refl

many_reads : {A : Type 0} (r : Read A) (go : List ℕ → Read (List A)) → (r >>= λ first. go first.1 >>= λ others. Ok (first.0 ∷ others.0, others.1)) ≡ mapped cons_of (r >>= λ a. go a.1 >>= λ b. Ok ((a.0, b.0), b.1))
many_reads (Err d) go = refl
many_reads (Ok x) go = many_inner x (go x.1)

many_is : {A : Type 0} {f : Format A} (n : ℕ) → IsCodec f → IsCodec (many n f)
many_is {f = f} n p = record {
  takes = λ bytes xs rest h e. let t = times_takes p n bytes xs rest h e in (t.0, (t.1, t.2));
  again = λ xs rest h. ap (λ (k : ℕ). times f.read k (flat_map f.spell xs ++ rest)) (sym h.0) ∙ times_again p xs rest h.1;
}

times_none : {A : Type 0} (f : Format A) (bytes : List ℕ) (left : ℕ) → times f.read 0 bytes ≡ Err left → ⊥
unfolding times
times_none f bytes left e = cc

times_next : {A : Type 0} (f : Format A) (n : ℕ) (bytes : List ℕ) → times f.read (suc n) bytes ≡ mapped cons_of ((f & many n f).read bytes)
unfolding times
times_next f n bytes = many_reads (f.read bytes) (times f.read n)

many_placed : {A : Type 0} {f : Format A} (n : ℕ) → IsPlaced f → IsPlaced (many n f)
many_placed {f = f} zero p = record { codec = many_is 0 p.codec; some = []; some_fits = (refl, tt); stops = λ bytes left h e. absurd (times_none f bytes left e) }
many_placed {f = f} (suc n) p =
    let q = many_placed n p in
    record {
      codec = many_is (suc n) p.codec;
      some = p.some ∷ q.some;
      some_fits = (ap suc q.some_fits.0, (p.some_fits, q.some_fits.1));
      stops = λ bytes left h e.
          renamed (f & many n f) (many (suc n) f) cons_of bytes left (λ x z. (ap suc z.1.0, (z.0, z.1.1))) (λ x. flat_map-cons f.spell x.0 x.1) (times_next f n)
          ((pair_placed p q).stops bytes left h (unmapped cons_of ((f & many n f).read bytes) left (sym (times_next f n bytes) ∙ e)));
    }

-- ---- a count, and that many items

pub counted_placed : {A : Type 0} {f : Format A} → IsPlaced f → IsPlaced (counted f)
counted_placed {f = f} p =
    let alike : IsAlike (sized w16 (2 ^ 16) (λ n. many n f) length) (counted f) = record { spell = λ x. refl; read = λ bytes. refl; to = λ x h. (h.0, h.1.1); from = λ x h. (h.0, (refl, h.1)) } in
    alike_placed alike (sized_placed wide16 (λ n. many_placed n p) (λ n xs h. h.0) (omega arith))

pub long_counted_placed : {A : Type 0} {f : Format A} → IsPlaced f → IsPlaced (long_counted f)
long_counted_placed {f = f} p =
    let alike : IsAlike (sized w32 (2 ^ 32) (λ n. many n f) length) (long_counted f) = record { spell = λ x. refl; read = λ bytes. refl; to = λ x h. (h.0, h.1.1); from = λ x h. (h.0, (refl, h.1)) } in
    alike_placed alike (sized_placed wide32 (λ n. many_placed n p) (λ n xs h. h.0) (omega arith))

pub counted_past_placed : {A B : Type 0} {f : Format A} {g : Format B} → IsPlaced f → IsPlaced g → IsPlaced (counted_past f g)
counted_past_placed {A} {B} {f} {g} p q =
    let size : A × List B → ℕ = λ x. length x.1 in
    let alike : IsAlike (sized w32 (2 ^ 32) (λ n. f & many n g) size) (counted_past f g) = record { spell = λ x. refl; read = λ bytes. refl; to = λ x h. (h.0, (h.1.0, h.1.1.1)); from = λ x h. (h.0, (h.1.0, (refl, h.1.1))) } in
    alike_placed alike (sized_placed wide32 (λ n. pair_placed p (many_placed n q)) (λ n x h. h.1.0) (omega arith))
