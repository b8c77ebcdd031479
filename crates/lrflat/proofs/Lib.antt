-- rows in turn
mod RowsInTurn
