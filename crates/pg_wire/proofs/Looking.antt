-- What stands first, from its type byte, its size and its payload.
use Rattle.std.proofs.Common.{◌≡◌, ◌⊎◌, inl, inr, ℕ, ◌+◌, List, take, drop, None, Some, Ok, Err, sym, ap, ◌∙◌, arith}
use Rattle.std.specs.Prelude.{slice_range}
use Rattle.std.proofs.lemmas.List.{drop-take}
use Rattle.pg_wire.specs.declared.frame.FrameError.{FrameError}
use Rattle.pg_wire.specs.declared.frame.FrameError.TheVariants as errors
use Rattle.pg_wire.specs.declared.content.Content.{Content}
use Rattle.pg_wire.specs.FrameList.{whole_at, content, with_size, beginning_of, beginning, Unfinished, Framed, Refused}
use Rattle.pg_wire.specs.Contents.{shown}

pub open_first : (place : ℕ) (bytes : List ℕ) → whole_at place bytes ≡ Ok None → beginning place bytes ≡ Unfinished
unfolding beginning
open_first place bytes e = ap (beginning_of place bytes) e

pub refused_first : (place : ℕ) (bytes : List ℕ) (error : FrameError) → whole_at place bytes ≡ Err error → beginning place bytes ≡ Refused error
unfolding beginning
refused_first place bytes error e = ap (beginning_of place bytes) e

pub payload_is : (bytes : List ℕ) (len size : ℕ) → 5 + len ≡ size → slice_range bytes 5 size ≡ take len (drop 5 bytes)
payload_is bytes len size e = ap (λ (n : ℕ). take n (drop 5 bytes)) (omega (arith, e))

pub refused_payload : (place kind len size : ℕ) (bytes : List ℕ) (error : FrameError) → whole_at place bytes ≡ Ok (Some (kind, len)) → 5 + len ≡ size → (error ≡ errors.OutOfMemory) ⊎ (content place kind (slice_range bytes 5 size) ≡ Err error)
    → (error ≡ errors.OutOfMemory) ⊎ (beginning place bytes ≡ Refused error)
unfolding beginning
refused_payload place kind len size bytes error e same (inl h) = inl h
refused_payload place kind len size bytes error e same (inr h) =
    inr (ap (beginning_of place bytes) e ∙ ap (with_size (5 + len)) (ap (content place kind) (sym (payload_is bytes len size same)) ∙ h))

pub framed_first : (place kind len size : ℕ) (bytes : List ℕ) (c : Content) → whole_at place bytes ≡ Ok (Some (kind, len)) → 5 + len ≡ size → content place kind (slice_range bytes 5 size) ≡ Ok (shown (slice_range bytes 5 size) c)
    → beginning place bytes ≡ Framed (shown (drop 5 (take size bytes)) c) size
unfolding beginning
framed_first place kind len size bytes c e same h =
    let payload : slice_range bytes 5 size ≡ drop 5 (take size bytes) = payload_is bytes len size same ∙ sym (drop-take 5 len bytes) ∙ ap (λ (n : ℕ). drop 5 (take n bytes)) same in
    ap (beginning_of place bytes) e ∙ ap (with_size (5 + len)) (ap (content place kind) (sym (payload_is bytes len size same)) ∙ h)
    ∙ ap (Framed (shown (slice_range bytes 5 size) c)) same ∙ ap (λ (p : List ℕ). Framed (shown p c) size) payload
