-- The bytes that a server writes are read.
use Rattle.std.proofs.Common.{◌≡◌, inl, inr, ℕ, ◌+◌, ◌-◌, ◌^◌, ◌<◌, ◌≤◌, true, false, ltb, List, ◌∷◌, ◌++◌, length, take, drop, refl, sym, ap, ◌∙◌, append_assoc, arith}
use Rattle.std.specs.Int.{w32, to_be_bytes, from_be_bytes}
use Rattle.std.proofs.lemmas.Bool.{le-ltb}
use Rattle.std.proofs.lemmas.List.{take_at, drop_at, length-append}
use Rattle.byte_format.proofs.Codec.{IsCodec, wide32, int64_is, byte_is, pair_is}
use Rattle.byte_format.proofs.Wholes.{whole_again}
use Rattle.pg_wire.specs.FrameList.{wal, keepalive, wal_frame, keepalive_frame, copy_data, content, payload_at, length_at, whole_at, with_size, beginning_of, beginning}
use Rattle.pg_wire.specs.Laws.{IsFrame, WholeFrames, WalPayloads, KeepalivePayloads, Prefixes, found}
use Rattle.pg_wire.proofs.FrameLaws.{whole_size, whole_stays, may}
use Rattle.pg_wire.proofs.Looking.{open_first}

-- ---- payloads

wal_is : IsCodec wal
wal_is = pair_is int64_is (pair_is int64_is int64_is)

keepalive_is : IsCodec keepalive
keepalive_is = pair_is int64_is (pair_is int64_is byte_is)

pub wal_payloads : WalPayloads
unfolding copy_data
wal_payloads start end time message a b c = ap wal_frame (wal_is.again (start, (end, time)) message (a, (b, c)))

pub keepalive_payloads : KeepalivePayloads
unfolding copy_data
keepalive_payloads end time true a b = ap keepalive_frame (whole_again keepalive_is (end, (time, 1)) (a, (b, omega arith)))
keepalive_payloads end time false a b = ap keepalive_frame (whole_again keepalive_is (end, (time, 0)) (a, (b, omega arith)))

-- ---- frames

payload_whole : (place kind : ℕ) (payload more : List ℕ) (n : ℕ) → IsFrame kind payload → n ≡ length payload → payload_at place kind n (payload ++ more) ≡ found (kind, length payload)
unfolding payload_at
payload_whole place kind payload more n w same =
    let long : ltb (length (payload ++ more)) (length payload) ≡ false = le-ltb _ _ (omega (arith, length-append payload more)) in
    rw (same, may kind (length payload) payload more (omega arith) w.may, long) refl

length_whole : (place kind : ℕ) (payload more : List ℕ) (n : ℕ) → IsFrame kind payload → n ≡ 4 + length payload → length_at place kind n (payload ++ more) ≡ found (kind, length payload)
unfolding length_at
length_whole place kind payload more n w same =
    let one : ltb 67109888 n ≡ false = le-ltb _ _ (omega (arith, same, w.short)) in
    let two : ltb n 4 ≡ false = le-ltb _ _ (omega (arith, same)) in
    rw (one, two) (payload_whole place kind payload more (n - 4) w (omega (arith, same)))

-- the four bytes of the length are these
sized_whole : (place kind n : ℕ) (spell payload more : List ℕ) → IsFrame kind payload → n ≡ 4 + length payload → length spell ≡ 4 → from_be_bytes w32 spell ≡ n → whole_at place (kind ∷ (spell ++ (payload ++ more))) ≡ found (kind, length payload)
unfolding whole_at
sized_whole place kind n spell payload more w same len value =
    let long : ltb (length (spell ++ (payload ++ more))) 4 ≡ false = le-ltb _ _ (omega (arith, length-append spell (payload ++ more), len)) in
    rw (w.known, long, take_at spell (payload ++ more) 4 len, drop_at spell (payload ++ more) 4 len, value) (length_whole place kind payload more n w same)

whole_bytes : (place kind n : ℕ) (spell payload more : List ℕ) → IsFrame kind payload → n ≡ 4 + length payload → length spell ≡ 4 → from_be_bytes w32 spell ≡ n
    → beginning place (kind ∷ (spell ++ (payload ++ more))) ≡ with_size (5 + length payload) (content place kind payload)
unfolding beginning
whole_bytes place kind n spell payload more w same len value =
    let rest : drop 4 (spell ++ (payload ++ more)) ≡ payload ++ more = drop_at spell (payload ++ more) 4 len in
    ap (beginning_of place (kind ∷ (spell ++ (payload ++ more)))) (sized_whole place kind n spell payload more w same len value)
    ∙ ap (λ (p : List ℕ). with_size (5 + length payload) (content place kind p)) (ap (take (length payload)) rest ∙ take_at payload more (length payload) refl)

within : (n : ℕ) → n ≤ 67109888 → n < 2 ^ 32
within n le = omega (arith, le)

pub whole_frames : WholeFrames
whole_frames place kind payload more w =
    let n : ℕ = 4 + length payload in
    ap (λ (bytes : List ℕ). beginning place (kind ∷ bytes)) (append_assoc (to_be_bytes w32 n) payload more) ∙ whole_bytes place kind n (to_be_bytes w32 n) payload more w refl (wide32.len n) (wide32.again n (within n w.short))

-- ---- prefixes

pub prefixes : Prefixes
prefixes place bytes more x e lt =
    elim (whole_stays place bytes more) [
      | inl h ↦ open_first place bytes h
      | inr h ↦ absurd (let le = whole_size place bytes x (sym h ∙ e) in omega (arith, le, lt))
    ]
