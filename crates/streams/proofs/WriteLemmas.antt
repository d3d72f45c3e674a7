-- Bytes that are appended in several calls.
use Rattle.std.proofs.Common.{◌≡◌, ℕ, ◌+◌, ◌-◌, ◌<◌, List, [], ◌∷◌, ◌++◌, length, take, drop, get_or, refl, ap, subst, sym, ◌∙◌, append_assoc, append-nil}
use Rattle.std.specs.Prelude.{Option, Some, None, Result, Ok, Err, OnOk, OnErr}
use Rattle.std.specs.Borrow.{Bor}
use Rattle.std.specs.Io.KnownBytes.{Appends, Keeps}
use Rattle.std.proofs.lemmas.List.{take-append-drop, take_rest, at_drop_more}
use Rattle.std.proofs.Math.Seq.{take-add}
use Rattle.streams.specs.Writing.{AppendsPrefix, concatenation}

pub appends_none : (o : Option (List ℕ)) → Appends o o []
appends_none None = tt
appends_none (Some xs) = sym (append-nil xs)

pub appends_kept : (a b c : Option (List ℕ)) (xs : List ℕ) → Appends a b xs → Keeps b c → Appends a c xs
appends_kept None b c xs h k = tt
appends_kept (Some x) None c xs h k = absurd h
appends_kept (Some x) (Some y) None xs h k = absurd k
appends_kept (Some x) (Some y) (Some z) xs h k = k ∙ h

pub appends_more : (a b c : Option (List ℕ)) (xs ys : List ℕ) → Appends a b xs → Appends b c ys → Appends a c (xs ++ ys)
appends_more None b c xs ys h k = tt
appends_more (Some x) None c xs ys h k = absurd h
appends_more (Some x) (Some y) None xs ys h k = absurd k
appends_more (Some x) (Some y) (Some z) xs ys h k = k ∙ ap (λ v. v ++ ys) h ∙ append_assoc x xs ys

pub appends_as : (a b : Option (List ℕ)) (xs ys : List ℕ) → xs ≡ ys → Appends a b xs → Appends a b ys
appends_as a b xs ys e h = subst (Appends a b) e h

-- a prefix, by its length
pub front_at : (a b : Option (List ℕ)) (bytes : List ℕ) (n : ℕ) → Appends a b (take n bytes) → AppendsPrefix a b bytes
front_at a b bytes n h = record { front = take n bytes; rest = drop n bytes; parted = sym (take-append-drop n bytes); appended = h }

-- a prefix of what follows what was written
pub front_behind : (a b c : Option (List ℕ)) (xs ys : List ℕ) → Appends a b xs → AppendsPrefix b c ys → AppendsPrefix a c (xs ++ ys)
front_behind a b c xs ys h f = record {
  front = xs ++ f.front;
  rest = f.rest;
  parted = ap (λ v. xs ++ v) f.parted ∙ sym (append_assoc xs f.front f.rest);
  appended = appends_more a b c xs f.front h f.appended;
}

-- a prefix of a prefix
pub front_longer : (a b : Option (List ℕ)) (xs ys : List ℕ) → AppendsPrefix a b xs → AppendsPrefix a b (xs ++ ys)
front_longer a b xs ys f = record {
  front = f.front;
  rest = f.rest ++ ys;
  parted = ap (λ v. v ++ ys) f.parted ∙ append_assoc f.front f.rest ys;
  appended = f.appended;
}

pub concatenation-append : (xs ys : List (Bor (List ℕ))) → concatenation (xs ++ ys) ≡ concatenation xs ++ concatenation ys
concatenation-append [] ys = refl
concatenation-append (x ∷ xs) ys = ap (λ v. x.now ++ v) (concatenation-append xs ys) ∙ sym (append_assoc x.now (concatenation xs) (concatenation ys))

pub front_here : (a b c : Option (List ℕ)) (bytes : List ℕ) (n : ℕ) → Appends a b (take n bytes) → Appends b c [] → AppendsPrefix a c bytes
front_here a b c bytes n h k = front_at a c bytes n (appends_as a c (take n bytes ++ []) (take n bytes) (append-nil (take n bytes)) (appends_more a b c (take n bytes) [] h k))

-- more of the bytes
pub appends_next : (a b c : Option (List ℕ)) (bytes : List ℕ) (done n : ℕ) → Appends a b (take done bytes) → Appends b c (take n (take (length bytes - done) (drop done bytes))) → Appends a c (take (done + n) bytes)
appends_next a b c bytes done n h k =
    let rest = ap (take n) (take_rest bytes done) in
    appends_as a c (take done bytes ++ take n (take (length bytes - done) (drop done bytes))) (take (done + n) bytes)
    (ap (λ v. take done bytes ++ v) rest ∙ sym (take-add done n bytes)) (appends_more a b c (take done bytes) _ h k)

-- the parts so far, and a prefix of the next
pub front_of_parts : (a b c : Option (List ℕ)) (parts : List (Bor (List ℕ))) (i : ℕ) (d : Bor (List ℕ)) → i < length parts → Appends a b (concatenation (take i parts)) → AppendsPrefix b c (get_or parts i d).now → AppendsPrefix a c (concatenation parts)
front_of_parts a b c parts i d inside h f =
    let behind = concatenation (drop (i + 1) parts) in
    let whole : concatenation (take i parts) ++ ((get_or parts i d).now ++ behind) ≡ concatenation parts = ap (λ v. concatenation (take i parts) ++ v) (sym (at_drop_more concatenation parts i d inside)) ∙ sym (concatenation-append (take i parts) (drop i parts)) ∙ ap concatenation (take-append-drop i parts) in
    subst (AppendsPrefix a c) whole (front_behind a b c (concatenation (take i parts)) ((get_or parts i d).now ++ behind) h (front_longer b c (get_or parts i d).now behind f))

-- the last of what is written
pub ok_behind : {A E : Type 0} (r : Result A E) (a b c : Option (List ℕ)) (xs ys : List ℕ) → Appends a b xs → OnOk r (Appends b c ys) → OnOk r (Appends a c (xs ++ ys))
ok_behind (Ok x) a b c xs ys h k = appends_more a b c xs ys h k
ok_behind (Err x) a b c xs ys h k = tt

pub err_behind : {A E : Type 0} (r : Result A E) (a b c : Option (List ℕ)) (xs ys : List ℕ) → Appends a b xs → OnErr r (AppendsPrefix b c ys) → OnErr r (AppendsPrefix a c (xs ++ ys))
err_behind (Ok x) a b c xs ys h k = tt
err_behind (Err x) a b c xs ys h k = front_behind a b c xs ys h k
