-- Two lists of exchanges with the same datagrams and answers send the same replies.
use Rattle.std.proofs.Common.{◌≡◌, ℕ, List, [], ◌∷◌, map, refl, ap₂}
use Rattle.std.specs.Prelude.{Option, option_map, Result}
use Rattle.std.specs.List.{cons_option, filter_map}
use Rattle.std.specs.Result.{result_ok}
use Rattle.types.specs.Delivery.{DeliveryValue}
use Rattle.types.specs.declared.discard.Discard.{Discard}
use Rattle.access_promises.specs.Exchanges.{Exchange, reply_of}
use Rattle.access_promises.specs.Own.{Reply}

abbrev datagrams : List Exchange → List DeliveryValue
datagrams = map (λ (x : Exchange). x.datagram)

abbrev answers : List Exchange → List (Result (List ℕ) Discard)
answers = map (λ (x : Exchange). x.answer)

pub same_head : {A : Type 0} (x y : A) (xs ys : List A) → x ∷ xs ≡ y ∷ ys → x ≡ y
same_head x y xs ys same = cc

pub same_tail : {A : Type 0} (x y : A) (xs ys : List A) → x ∷ xs ≡ y ∷ ys → xs ≡ ys
same_tail x y xs ys same = cc

abbrev reply_by : DeliveryValue → Result (List ℕ) Discard → Option Reply
reply_by d answer = option_map (λ datagram. record { proto = d.proto; to = d.source; datagram = datagram }) (result_ok answer)

pub same_replies : (xs ys : List Exchange) → datagrams xs ≡ datagrams ys → answers xs ≡ answers ys → filter_map reply_of xs ≡ filter_map reply_of ys
same_replies [] [] ds given = refl
same_replies [] (y ∷ ys) ds given = absurd cc
same_replies (x ∷ xs) [] ds given = absurd cc
same_replies (x ∷ xs) (y ∷ ys) ds given =
    ap₂ cons_option (ap₂ reply_by (same_head x.datagram y.datagram (datagrams xs) (datagrams ys) ds) (same_head x.answer y.answer (answers xs) (answers ys) given))
    (same_replies xs ys (same_tail x.datagram y.datagram (datagrams xs) (datagrams ys) ds) (same_tail x.answer y.answer (answers xs) (answers ys) given))
