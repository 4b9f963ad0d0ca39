-- A message that is read from a link is the next of those to come.
use Rattle.std.proofs.Common.{◌≡◌, inl, inr, ℕ, ◌+◌, ◌-◌, ◌<◌, ◌≤◌, List, [], ◌++◌, length, get_or, Some, sym, ap, ◌∙◌, arith}
use Rattle.std.proofs.lemmas.List.{append-nil, length-append}
use Rattle.pg_dialogue.specs.declared.wire_error.WireError.{WireError}
use Rattle.pg_dialogue.specs.declared.wire_error.WireError.TheVariants.{BadReply}
use Rattle.pg_dialogue.specs.Messages.{Said, Silent, Says, behind, said}
use Rattle.pg_dialogue.specs.Dialogue.{ended}
use Rattle.pg_dialogue.specs.Links.{within, to_come, since, Takes, Stops, stop_of, StopsSaid}
use Rattle.pg_dialogue.proofs.Filling.{within_of}
use Rattle.pg_dialogue.proofs.Saying.{size_in, said_few, said_small, said_cut, said_whole}

pub message_ok : {g l g1 l1 g2 l2 : List ℕ} {p p1 p2 : ℕ} (head payload : List ℕ) (kind len : ℕ) → Takes g l p g1 l1 p1 → Takes g1 l1 p1 g2 l2 p2 → p2 ≤ 68719476736 → head ≡ since g g1 → payload ≡ since g1 g2 → length head ≡ 5
    → kind ≡ get_or head 0 0 → len ≡ size_in head → 4 ≤ len → length payload ≡ len - 4 → to_come p l ≡ Says p kind payload (to_come p2 l2)
message_ok {g} {l} {g1} {l1} {g2} {l2} {p} {p1} {p2} head payload kind len t1 t2 le h q five k n large size =
    let one : within p l ≡ head ++ within p1 l1 = within_of t1 (omega (arith, t2.size, le)) ∙ ap (λ (xs : List ℕ). xs ++ within p1 l1) (sym h) in
    let two : within p1 l1 ≡ payload ++ within p2 l2 = within_of t2 le ∙ ap (λ (xs : List ℕ). xs ++ within p2 l2) (sym q) in
    let last : behind p payload ≡ p2 = omega (arith, t1.size, t2.size, ap length h, ap length q, five) in
    said_whole p (within p l) head (within p1 l1) payload (within p2 l2) one five two (omega (arith, n, large)) (omega (arith, n, size))
    ∙ ap (λ (x : ℕ). Says p x payload (said (behind p payload) (within p2 l2))) (sym k) ∙ ap (λ (x : ℕ). Says p kind payload (said x (within p2 l2))) last

pub message_behind : {g l g1 l1 g2 l2 : List ℕ} {p p1 p2 : ℕ} (head payload : List ℕ) → Takes g l p g1 l1 p1 → Takes g1 l1 p1 g2 l2 p2 → head ≡ since g g1 → payload ≡ since g1 g2 → length head ≡ 5 → p2 ≡ behind p payload
message_behind head payload t1 t2 h q five = omega (arith, t1.size, t2.size, ap length h, ap length q, five)

-- an error that is no want of memory and no fault of the link
by_silence : (e : WireError) (s : Said) (place : ℕ) → ended place ≡ e → s ≡ Silent place → stop_of s ≡ Some e
by_silence e s place is same = ap stop_of same ∙ ap Some is

few : {g l g1 l1 : List ℕ} {p p1 : ℕ} → Takes g l p g1 l1 p1 → p1 ≤ 68719476736 → within p1 l1 ≡ [] → length (since g g1) < 5 → to_come p l ≡ Silent p1
few {g} {l} {g1} {l1} {p} {p1} t le nothing short =
    let all : within p l ≡ since g g1 = within_of t le ∙ ap (λ (xs : List ℕ). since g g1 ++ xs) nothing ∙ append-nil (since g g1) in
    said_few p (within p l) (omega (arith, ap length all, short)) ∙ ap Silent (omega (arith, ap length all, t.size))

pub message_few : {g l g1 l1 : List ℕ} {p p1 : ℕ} (e : WireError) (n : ℕ) → Takes g l p g1 l1 p1 → p1 ≤ 68719476736 → n ≡ 0 → Stops e p1 l1 (n + length (since g g1)) 5 → StopsSaid e (to_come p l)
message_few e n t le zero (inl h) = inl h
message_few e n t le zero (inr (inl h)) = inr (inl h)
message_few {g} {l} {g1} {l1} {p} {p1} e n t le zero (inr (inr h)) = inr (inr (by_silence e (to_come p l) p1 h.is (few t le h.nothing_left (omega (arith, zero, h.few)))))

pub message_small : {g l g1 l1 : List ℕ} {p p1 : ℕ} (head : List ℕ) (len : ℕ) → Takes g l p g1 l1 p1 → p1 ≤ 68719476736 → head ≡ since g g1 → length head ≡ 5 → len ≡ size_in head → len < 4 → StopsSaid (BadReply p) (to_come p l)
message_small {g} {l} {g1} {l1} {p} {p1} head len t le h five n small =
    let one : within p l ≡ head ++ within p1 l1 = within_of t le ∙ ap (λ (xs : List ℕ). xs ++ within p1 l1) (sym h) in
    inr (inr (ap stop_of (said_small p (within p l) head (within p1 l1) one five (omega (arith, n, small)))))

cut : {g l g1 l1 g2 l2 : List ℕ} {p p1 p2 : ℕ} (head : List ℕ) (len : ℕ) → Takes g l p g1 l1 p1 → Takes g1 l1 p1 g2 l2 p2 → p2 ≤ 68719476736 → head ≡ since g g1 → length head ≡ 5 → len ≡ size_in head → 4 ≤ len → within p2 l2 ≡ []
    → length (since g1 g2) < len - 4 → to_come p l ≡ Silent p2
cut {g} {l} {g1} {l1} {g2} {l2} {p} {p1} {p2} head len t1 t2 le h five n large nothing short =
    let one : within p l ≡ head ++ within p1 l1 = within_of t1 (omega (arith, t2.size, le)) ∙ ap (λ (xs : List ℕ). xs ++ within p1 l1) (sym h) in
    let two : within p1 l1 ≡ since g1 g2 = within_of t2 le ∙ ap (λ (xs : List ℕ). since g1 g2 ++ xs) nothing ∙ append-nil (since g1 g2) in
    let all : within p l ≡ head ++ since g1 g2 = one ∙ ap (λ (xs : List ℕ). head ++ xs) two in
    said_cut p (within p l) head (since g1 g2) all five (omega (arith, n, large)) (omega (arith, n, short)) ∙ ap Silent (omega (arith, ap length all, length-append head (since g1 g2), t1.size, t2.size, ap length h))

pub message_cut : {g l g1 l1 g2 l2 : List ℕ} {p p1 p2 : ℕ} (e : WireError) (head : List ℕ) (len m want : ℕ) → Takes g l p g1 l1 p1 → Takes g1 l1 p1 g2 l2 p2 → p2 ≤ 68719476736 → head ≡ since g g1 → length head ≡ 5 → len ≡ size_in head → 4 ≤ len
    → m ≡ 0 → want ≡ len - 4 → Stops e p2 l2 (m + length (since g1 g2)) want → StopsSaid e (to_come p l)
message_cut e head len m want t1 t2 le h five n large zero w (inl x) = inl x
message_cut e head len m want t1 t2 le h five n large zero w (inr (inl x)) = inr (inl x)
message_cut {g} {l} {g1} {l1} {g2} {l2} {p} {p1} {p2} e head len m want t1 t2 le h five n large zero w (inr (inr x)) =
    inr (inr (by_silence e (to_come p l) p2 x.is (cut head len t1 t2 le h five n large x.nothing_left (omega (arith, zero, w, x.few)))))
