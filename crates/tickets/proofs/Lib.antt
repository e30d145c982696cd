mod Outstanding
