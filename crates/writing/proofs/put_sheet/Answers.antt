-- `writing::put_sheet` meets its contract: header, rows, outlets and end, each after the other.
-- Assumes nothing.
use native.Mathlib.Omega.{arith}
use Rattle.writing.proofs.WholeSheet.{puttable, sheet_put}
use Rattle.spelling.specs.Content.{content}
use Rattle.spelling.proofs.Sizes.{outlets_length}
use Rattle.writing.proofs.Puts.{rows_land}
use Rattle.writing.proofs.put_sheet.Goals as goal

pub put_pair-requires : goal.put_pair-requires
put_pair-requires c =
    let a = c.args in
    let p = puttable (content a.rows a.cols a.codes.now a.outlets.now) a.file.now c.requires in
    (omega (arith, p.fits), omega (arith, p.rows_small), omega (arith, p.cols_small))

pub put_rows-tail-requires : goal.put_rows-tail-requires
put_rows-tail-requires c =
    let a = c.args in
    let p = puttable (content a.rows a.cols a.codes.now a.outlets.now) a.file.now c.requires in
    (omega (arith, p.fits, c.put_pair.auto.file), p.has_codes, p.rows_small)

pub put_outlets-end-requires : goal.put_outlets-end-requires
put_outlets-end-requires c =
    let a = c.args in
    let p = puttable (content a.rows a.cols a.codes.now a.outlets.now) a.file.now c.requires in
    let tail = rows_land a.cols a.rows a.codes.now c.put_rows-tail.ensures p.has_codes in (
      omega (arith, p.fits, c.put_pair.auto.file, c.put_rows-tail.auto.file, tail),
      p.some_cols,
      p.cells,
    )

pub put-requires : goal.put-requires
put-requires c =
    let a = c.args in
    let p = puttable (content a.rows a.cols a.codes.now a.outlets.now) a.file.now c.requires in
    omega (
      arith,
      p.fits,
      c.put_pair.auto.file,
      c.put_rows-tail.auto.file,
      rows_land a.cols a.rows a.codes.now c.put_rows-tail.ensures p.has_codes,
      c.put_outlets-end.auto.file,
      c.put_outlets-end.ensures.lands,
      outlets_length a.cols a.outlets.now,
    )

pub returns : goal.returns
returns c =
    let a = c.args in
    sheet_put (content a.rows a.cols a.codes.now a.outlets.now) a.file.now c.put_pair.ensures c.put_rows-tail.ensures
    c.put_outlets-end.ensures c.put.ensures
