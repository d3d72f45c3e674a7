use Rattle.std.proofs.Common.{◌≡◌, ◌∙◌, ◌+◌, ◌++◌, List, drop, take, ap, ap₂, sym, append_assoc, Vec, Global}
use Rattle.types.specs.Addr.{number4, addr4, number6, addr6}
use Rattle.types.specs.Pool4.{PoolValue}
use Rattle.types.specs.Pool6.{Pool6Value}
use Rattle.types.specs.Slots.{live4, live6}
use Rattle.config.specs.CircuitPart.{pool4_of, pool6_of}
use Rattle.lease_list.specs.declared.lease.Lease.{Lease}
use Rattle.lease_list.specs.Lease.{lease4, lease6, leases4, leases6}
use Rattle.lease_list.proofs.LeaseLemmas.{added, added_none, added_some, done4, done6, more4, more6}
use Rattle.lease_list.proofs.lease.add_leases.Goals as goal
use Rattle.lease_list.proofs.lease.add_leases.Goals.{in-Some+in_ok-push, in_default, in-Some-lease6+in_ok-push-2, in_default-lease6}

abbrev items : Vec Lease Global → List Lease
items v = v.items

pub four-preserved : goal.four-preserved
four-preserved c =
    let i = c.four.i in
    let n = number4 c.first-first4.result in
    let slots = take c.from.result c.args.slots.now.four in
    let found = c.four.found.items in
    let here = lease4 (addr4 (n + i)) (live4 c.args.at c.index-four-i.result) in
    let rest = leases4 c.args.at (n + (i + 1)) (drop (i + 1) slots) in
    let number : c.number.result + i ≡ n + i = ap (λ k. k + i) c.number.ensures.value in
    let same : c.lease4.result ≡ here = c.lease4.ensures ∙ ap₂ lease4 (c.from_number-address.ensures.address ∙ ap addr4 number) c.live_at.ensures in
    let more = more4 c.args.at n i slots c.index-four-i.result found (c.args.found.now.items ++ leases4 c.args.at n slots) c.four-test.true c.index-four-i.is c.four.invariant in
    elim c.match-lease4.branch [
      | in-Some+in_ok-push w ↦
          ap (λ xs. xs ++ rest) (ap items w.found-is ∙ w.in_ok-push.ensures.items ∙ sym (added_some found w.in-Some.lease) ∙ ap (added found) (sym w.in-Some.is ∙ same)) ∙ more
      | in_default w ↦
          ap (λ xs. xs ++ rest) (ap items w.found-is ∙ sym (added_none found) ∙ ap (added found) (sym w.in_default.is ∙ same)) ∙ more
    ]

pub six-preserved : goal.six-preserved
six-preserved c =
    let i = c.six.i in
    let n = number6 c.first-first6.result in
    let slots = take c.from-2.result c.args.slots.now.six in
    let found = c.six.found.items in
    let here = lease6 (addr6 (n + i)) (live6 c.args.at c.index-six-i.result) in
    let rest = leases6 c.args.at (n + (i + 1)) (drop (i + 1) slots) in
    let number : c.number-in-six.result + i ≡ n + i = ap (λ k. k + i) c.number-in-six.ensures.value in
    let same : c.lease6.result ≡ here = c.lease6.ensures ∙ ap₂ lease6 (c.from_number-address-in-six.ensures.address ∙ ap addr6 number) c.live_at-in-six.ensures in
    let more = more6 c.args.at n i slots c.index-six-i.result found (c.four.found.items ++ leases6 c.args.at n slots) c.six-test.true c.index-six-i.is c.six.invariant in
    elim c.match-lease6.branch [
      | in-Some-lease6+in_ok-push-2 w ↦
          ap (λ xs. xs ++ rest) (ap items w.found-is ∙ w.in_ok-push-2.ensures.items ∙ sym (added_some found w.in-Some-lease6.lease) ∙ ap (added found) (sym w.in-Some-lease6.is ∙ same)) ∙ more
      | in_default-lease6 w ↦
          ap (λ xs. xs ++ rest) (ap items w.found-is ∙ sym (added_none found) ∙ ap (added found) (sym w.in_default-lease6.is ∙ same)) ∙ more
    ]

pub returns : goal.returns
returns c =
    let part = c.args.part.now in
    let slots = c.args.slots.now in
    let old = c.args.found.now.items in
    let four = take c.from.result slots.four in
    let six = take c.from-2.result slots.six in
    let n4 = number4 c.first-first4.result in
    let n6 = number6 c.first-first6.result in
    let first4 : c.first-first4.result ≡ (pool4_of part).first = c.first-first4.ensures.value ∙ ap (λ (p : PoolValue). p.first) c.pool4-pool4.ensures in
    let first6 : c.first-first6.result ≡ (pool6_of part).first = c.first-first6.ensures.value ∙ ap (λ (p : Pool6Value). p.first) c.pool6-pool6.ensures in
    let count4 : c.from.result ≡ part.count4 = c.from.ensures ∙ c.count.ensures.value ∙ ap (λ (p : PoolValue). p.count) c.pool4-pool4.ensures in
    let count6 : c.from-2.result ≡ part.count6 = c.from-2.ensures ∙ c.count-2.ensures.value ∙ ap (λ (p : Pool6Value). p.count) c.pool6-pool6.ensures in
    let before = done4 c.args.at n4 c.four.i four c.four.found.items (old ++ leases4 c.args.at n4 four) c.four-test.false c.four.invariant in
    let all = done6 c.args.at n6 c.six.i six c.six.found.items (c.four.found.items ++ leases6 c.args.at n6 six) c.six-test.false c.six.invariant in
    all ∙ ap (λ xs. xs ++ leases6 c.args.at n6 six) before ∙ append_assoc old (leases4 c.args.at n4 four) (leases6 c.args.at n6 six)
    ∙ ap₂ (λ a k. old ++ (leases4 c.args.at (number4 a) (take k slots.four) ++ leases6 c.args.at n6 six)) first4 count4
    ∙ ap₂ (λ a k. old ++ (leases4 c.args.at (number4 (pool4_of part).first) (take part.count4 slots.four) ++ leases6 c.args.at (number6 a) (take k slots.six))) first6 count6
