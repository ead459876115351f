-- The pages of a span of whole pages.
use Rattle.std.proofs.Common.{◌≡◌, ◌<◌, ◌≤◌, ℕ, ◌+◌, ◌-◌, ◌*◌, ◌/◌, ◌%◌, true, false, eqb, leb, arith}
use Rattle.std.proofs.lemmas.Bool.{eqb-true}
use Rattle.std.proofs.lemmas.Bool.Decides.{nat_tests}
use Rattle.std.proofs.Math.Nat.{div-add-mod}
use Rattle.iofd_words.specs.Dirty.{reported_span}
use Rattle.iofd_words.specs.DirtyWords.{is_page_of}
use Rattle.iofd_words.specs.View.{View}
use Rattle.iofd_words.specs.declared.event.DirtyRequest.{DirtyRequest}
use Rattle.iofd_words.specs.declared.numbers.FileNo.{FileNo}
use Rattle.iofd_rows.proofs.Bools.{and_true, both_true}
use Rattle.iofd_runs.proofs.NotRefused.{DirtyPassed}
use Rattle.iofd_promises.specs.Marks.{IsAskedFor}

-- of a span of whole pages, at least one
module _ (first length page : ℕ) (some : eqb length 0 ≡ false) (whole : length % 4096 ≡ 0)
    (begins : first % 4096 ≡ 0) where
  within : leb (first / 4096) page ≡ true → leb page ((first + length - 1) / 4096) ≡ true
      → (first ≤ 4096 * page) × (4096 * page < first + length)
  within from to =
      let above : 0 < length = search (some, arith, nat_tests) in
      let low : first / 4096 ≤ page = search (from, arith, nat_tests) in
      let high : page ≤ (first + length - 1) / 4096 = search (to, arith, nat_tests) in
      let start = div-add-mod first 4096 in
      let end = div-add-mod (first + length - 1) 4096 in
      (omega (arith, start, begins, low), omega (arith, end, high, above))

  covered : first ≤ 4096 * page → 4096 * page < first + length
      → (leb (first / 4096) page ≡ true) × (leb page ((first + length - 1) / 4096) ≡ true)
  covered from to =
      let start = div-add-mod first 4096 in
      let end = div-add-mod (first + length - 1) 4096 in
      let low : first / 4096 ≤ page = omega (arith, start, from) in
      let high : page ≤ (first + length - 1) / 4096 = omega (arith, end, to) in
      (search (low, arith, nat_tests), search (high, arith, nat_tests))

module _ (v : View) (file : FileNo) (request : DirtyRequest) (passed : DirtyPassed v file request) (page : ℕ) where
  whole : request.length % 4096 ≡ 0
  whole = eqb-true (request.length % 4096) 0
      (and_true (eqb (request.length % 4096) 0) (eqb (request.iova.0 % 4096) 0) passed.whole).0

  begins : request.iova.0 % 4096 ≡ 0
  begins = eqb-true (request.iova.0 % 4096) 0
      (and_true (eqb (request.length % 4096) 0) (eqb (request.iova.0 % 4096) 0) passed.whole).1

  pub asked_for : is_page_of (reported_span request) page ≡ true → IsAskedFor request page
  asked_for is =
      let parts = and_true (leb (request.iova.0 / 4096) page)
      (leb page ((request.iova.0 + request.length - 1) / 4096)) is in
      within request.iova.0 request.length page passed.some whole begins parts.0 parts.1

  pub of_span : IsAskedFor request page → is_page_of (reported_span request) page ≡ true
  of_span asked =
      let parts = covered request.iova.0 request.length page passed.some whole begins asked.0 asked.1 in
      both_true _ _ parts.0 parts.1

-- the page of an address
pub page_is : (address page : ℕ) → 4096 * page ≤ address → address < 4096 * page + 4096 → address / 4096 ≡ page
page_is address page low high = let cut = div-add-mod address 4096 in omega (arith, cut, low, high)

pub page_holds : (address page : ℕ) → address / 4096 ≡ page
    → (4096 * page ≤ address) × (address < 4096 * page + 4096)
page_holds address page is =
    let cut = div-add-mod address 4096 in (omega (arith, cut, is), omega (arith, cut, is))
