-- The room of 16 bytes in front of a datagram, and what is written there and behind it.
use Rattle.std.proofs.Common.{◌≡◌, ℕ, ◌+◌, ◌-◌, ◌≤◌, List, ◌++◌, length, length-take-le, take, take-add, drop, arith, ap, sym, ◌∙◌}
use Rattle.std.proofs.lemmas.List.{drop_at, drop-append-le}
use Rattle.std.proofs.lemmas.Slice.{between_is, take-put_mid, take-put_mid_below, drop-put_mid}
use borrow.Rule.Slice.PartMut.{put_mid}

-- the front and the datagram are one part of the room
pub whole : (room : List ℕ) (start len : ℕ) → start ≤ 16 → 16 + len ≤ length room → take (16 + len - start) (drop start room) ≡ drop start (take 16 room) ++ take len (drop 16 room)
whole room start len front fits =
    between_is room start (16 + len) ∙ ap (drop start) (take-add 16 len room)
    ∙ drop-append-le start (take 16 room) (take len (drop 16 room)) (omega (arith, length-take-le 16 room (omega (arith, fits))))

module _ (room xs : List ℕ) where
  abbrev after : (len : ℕ) → List ℕ → List ℕ
  after len bytes = take len (drop 16 bytes)

  -- bytes that are written behind the datagram
  pub appended : (len k : ℕ) → 16 + len ≤ length room → after (len + length xs) (put_mid (16 + len) k room xs) ≡ after len room ++ xs
  appended len k fits =
      let all : 16 + (len + length xs) - 16 ≡ len + length xs = omega arith in
      let old : 16 + len - 16 ≡ len = omega arith in
      let written = put_mid (16 + len) k room xs in
      sym (ap (λ n. after n written) all) ∙ between_is written 16 (16 + (len + length xs))
      ∙ ap (drop 16) (take-put_mid (16 + len) k room xs (16 + (len + length xs)) (omega arith) fits)
      ∙ drop-append-le 16 (take (16 + len) room) xs (omega (arith, length-take-le (16 + len) room fits))
      ∙ ap (λ l. l ++ xs) (sym (between_is room 16 (16 + len)) ∙ ap (λ n. after n room) old)

  pub front_stays : (start len k : ℕ) → 16 + len ≤ length room → drop start (take 16 (put_mid (16 + len) k room xs)) ≡ drop start (take 16 room)
  front_stays start len k fits = ap (drop start) (take-put_mid_below (16 + len) k room xs 16 (omega arith) fits)

  -- bytes that are put in front of it, up to where it begins
  pub front_is : (k : ℕ) → length xs ≤ 16 → 16 ≤ length room → drop (16 - length xs) (take 16 (put_mid (16 - length xs) k room xs)) ≡ xs
  front_is k few fits =
      let start = 16 - length xs in
      ap (drop start) (take-put_mid start k room xs 16 (omega (arith, few)) (omega (arith, fits)))
      ∙ drop_at (take start room) xs start (length-take-le start room (omega (arith, fits)))

  pub datagram_is : (k len : ℕ) → length xs ≤ 16 → 16 ≤ length room → length xs ≡ k → after len (put_mid (16 - length xs) k room xs) ≡ after len room
  datagram_is k len few fits is =
      ap (take len) (drop-put_mid (16 - length xs) k room xs 16 (omega (arith, few, is)) (omega (arith, fits)) is)
