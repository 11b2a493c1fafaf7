-- How blocks cover the iterations of a loop.
use Rattle.std.proofs.Common.{◌≡◌, ℕ, suc, ◌+◌, ◌-◌, ◌*◌, ◌/◌, ◌^◌, ◌<◌, ◌≤◌, sym, ap, ◌∙◌, arith}
use Rattle.std.proofs.Math.Nat.{le-div_iff_mul-le, lt-div-mul-add, div-mul-le_self}
use Rattle.std.proofs.lemmas.Nat.{div-mul-add}
use Rattle.halving.specs.Blocks.{block_begin, block_count, block_end, block_size}

times_suc : (b k : ℕ) → (b + 1) * k ≡ b * k + k
times_suc b k = omega arith

pub size_fit : (workers least trip : ℕ) → 0 < workers → 0 < least → 0 < trip → (0 < block_size workers least trip) × (block_size workers least trip ≤ trip)
size_fit workers least trip some one more = (omega (arith, one, more), omega arith)

begins : (trip size b : ℕ) → 0 < size → b < block_count trip size → b * size < trip
begins trip size b some h =
    let e : suc b * size ≤ trip + size - 1 = (le-div_iff_mul-le {k = size} {x = suc b} {y = trip + size - 1} some).0 h in
    omega (arith, e, some, times_suc b size)

pub block_begun : (trip size b : ℕ) → 0 < size → b < block_count trip size → block_begin size b < block_end trip size b
block_begun trip size b some h = omega (arith, begins trip size b some h, some)

pub block_followed : (trip size b : ℕ) → 0 < size → b + 1 < block_count trip size → block_end trip size b ≡ block_begin size (b + 1)
block_followed trip size b some h = omega (arith, begins trip size (b + 1) some h, times_suc b size)

pub last_ended : (trip size b : ℕ) → 0 < size → b + 1 ≡ block_count trip size → block_end trip size b ≡ trip
last_ended trip size b some last =
    let e : trip + size - 1 < block_count trip size * size + size = lt-div-mul-add {a = trip + size - 1} {b = size} some in
    let f : block_count trip size * size ≡ (b + 1) * size = ap (λ (n : ℕ). n * size) (sym last) in
    omega (arith, e, f, some, times_suc b size)

pub has_block : (trip size i : ℕ) → 0 < size → i < trip → (i / size < block_count trip size) × (block_begin size (i / size) ≤ i) × (i < block_end trip size (i / size))
has_block trip size i some less =
    let low : i / size * size ≤ i = div-mul-le_self i size in
    let high : i < i / size * size + size = lt-div-mul-add {a = i} {b = size} some in
    let e : suc (i / size) * size ≤ trip + size - 1 = omega (arith, low, less, some, times_suc (i / size) size) in
    ((le-div_iff_mul-le {k = size} {x = suc (i / size)} {y = trip + size - 1} some).1 e, low, omega (arith, high, less))

pub has_one_block : (trip size i b : ℕ) → 0 < size → block_begin size b ≤ i → i < block_end trip size b → b ≡ i / size
has_one_block trip size i b some low high =
    let rest : i - b * size < size = omega (arith, low, high) in
    let is : b * size + (i - b * size) ≡ i = omega (arith, low) in
    sym (div-mul-add b size (i - b * size) rest) ∙ ap (λ (n : ℕ). n / size) is

pub sums_fit : (workers least trip b : ℕ) → 0 < workers → workers ≤ 64 → 0 < least → 0 < trip → trip ≤ 2 ^ 31 → b < block_count trip (block_size workers least trip) →
    (trip + 4 * workers < 2 ^ 64) × (trip + block_size workers least trip < 2 ^ 64) × (block_begin (block_size workers least trip) b + block_size workers least trip < 2 ^ 64)
sums_fit workers least trip b some few one more most h =
    let fits = size_fit workers least trip some one more in
    let begun : b * block_size workers least trip < trip = begins trip (block_size workers least trip) b fits.0 h in
    (omega (arith, few, most), omega (arith, fits.1, most), omega (arith, fits.1, begun, most))
